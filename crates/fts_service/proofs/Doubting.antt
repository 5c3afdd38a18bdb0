-- The entry in doubt behind a request: of its writer, where it came up in it, and as it is shown.
use Rattle.std.proofs.Common.{◌≡◌, ◌⊎◌, refl, ap, ◌∙◌, subst, inl, inr, ⊎_elim, ℕ, List, [], ◌∷◌, Option, None, Ok, Err}
use Rattle.serde_json.specs.Data.{Data}
use Rattle.fts_tables.specs.Counts.{Rose}
use Rattle.fts_tables.specs.Tables.{Tables}
use Rattle.fts_tables.specs.declared.commands.Entry.{Entry}
use Rattle.fts_tables.specs.declared.commands.Command.{Command}
use Rattle.fts_turnstile.specs.History.{AllName}
use Rattle.fts_wire.specs.RequestData.{RequestData}
use Rattle.fts_wire.specs.declared.response.Reply.{Reply}
use Rattle.fts_keep.specs.Keeps.{KeepData}
use Rattle.fts_keep.specs.Applied.{Applies, applied_to, entry_by}
use Rattle.fts_keep.specs.declared.fault.KeepFault.TheVariants.{Rule, DiskFailed, JournalFull, Damaged, Memory}
use Rattle.fts_routes.specs.Replies.{Answers, Plan, Replies, Looks, Tries, DoubtComes, Said, plan_of, said, said_by, said_so, said_to}
use Rattle.fts_shop.specs.Shops.{IsDoubtOf, doubt_bytes, writer_of}
use Rattle.fts_shop.proofs.Took.{doubt_moved}
use Rattle.fts_service.specs.Lanes.{DoubtComesIn}
use Rattle.fts_disk.specs.declared.disk.Disk as disk

-- what a plan asks to add is of its writer
by_named : (tables : Tables) (shown : Tables → Data) (writer : ℕ) (command : Command) (came : Applies)
    → AllName writer_of writer (said_by tables shown (entry_by writer command) came).added
by_named tables shown writer command (Ok done) = (refl, tt)
by_named tables shown writer command (Err (Rule refusal)) = tt
by_named tables shown writer command (Err (JournalFull used)) = tt
by_named tables shown writer command (Err DiskFailed) = tt
by_named tables shown writer command (Err Memory) = tt
by_named tables shown writer command (Err (Damaged offset)) = tt

to_named : (tables : Tables) (bodies : List (List ℕ)) (used writer : ℕ) (plan : Plan) → AllName writer_of writer (said_to tables bodies used writer plan).added
to_named tables bodies used writer (Replies reply) = tt
to_named tables bodies used writer (Looks number) = tt
to_named tables bodies used writer (Tries command shown) =
    by_named tables shown writer command (applied_to tables used (entry_by writer command))

-- so is what a request does
said_named : (tables : Tables) (bodies : List (List ℕ)) (used writer : ℕ) (request : RequestData) (now : ℕ)
    → AllName writer_of writer (said tables bodies used writer request now).added
said_named tables bodies used writer request now = to_named tables bodies used writer (plan_of tables now request)

-- the entry in doubt is none, or the one from before, or the writer's
doubt_came : (writer before after : ℕ) (old new : Option Entry) (asked added : List Entry) → AllName writer_of writer asked
    → DoubtComes before after old new asked added → (new ≡ None) ⊎ ((new ≡ old) ⊎ (IsDoubtOf writer new × Rose before after))
doubt_came writer before after old new asked (entry ∷ more) named comes = inl comes
doubt_came writer before after old new (entry ∷ more) [] named comes =
    subst (λ (n : ℕ). (new ≡ None) ⊎ ((new ≡ old) ⊎ (IsDoubtOf n new × Rose before after))) named.0 (doubt_moved before after old new entry comes)
doubt_came writer before after old new [] [] named comes = ⊎_elim (λ same. inr (inl same)) (λ none. inl none) comes

pub doubt_answered : {D : Type 0} (disks : disk.Ghosts D) (old new : KeepData D) (writer : ℕ) (request : RequestData) (now : ℕ) (reply : Reply)
    → Answers disks.state disks.faults old new writer request now reply
    → (new.doubt ≡ None) ⊎ ((new.doubt ≡ old.doubt) ⊎ (IsDoubtOf writer new.doubt × Rose (disks.faults old.disk) (disks.faults new.disk)))
doubt_answered disks old new writer request now reply answers =
    let met : Said = said old.tables answers.bodies old.used writer request now in
    doubt_came writer (disks.faults old.disk) (disks.faults new.disk) old.doubt new.doubt met.added (said_so answers.way met).added
    (said_named old.tables answers.bodies old.used writer request now) answers.doubt

-- and as it is shown
pub doubt_came_in : (rose : Type 0) (before after : ℕ) (old new : Option Entry) (shown : List ℕ) (asked added : List Entry) → doubt_bytes old ≡ shown
    → (Rose before after → rose) → DoubtComes before after old new asked added → DoubtComesIn rose shown (doubt_bytes new) asked added
doubt_came_in rose before after old new shown asked (entry ∷ more) was rises comes = ap doubt_bytes comes
doubt_came_in rose before after old new shown (entry ∷ more) [] was rises comes = ⊎_elim
    (λ same. inl (ap doubt_bytes same ∙ was))
    (λ other. inr (⊎_elim (λ none. inl (ap doubt_bytes none)) (λ own. inr (ap doubt_bytes own.0, rises own.1)) other))
    comes
doubt_came_in rose before after old new shown [] [] was rises comes = ⊎_elim
    (λ same. inl (ap doubt_bytes same ∙ was))
    (λ none. inr (ap doubt_bytes none))
    comes
