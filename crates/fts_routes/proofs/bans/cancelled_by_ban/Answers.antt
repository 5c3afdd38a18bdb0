-- How many files the ban cancels, where it cancels and its storage is listed; and else none.
use Rattle.std.proofs.Common.{◌≡◌, ℕ, Bool, true, false, refl, sym, ◌∙◌}
use Rattle.std.specs.Prelude.{if◌then◌else◌, ◌&&◌}
use Rattle.fts_tables.specs.SettingsData.{is_listed}
use Rattle.fts_tables.specs.Waits.{waits_at, count_cancelled}
use Rattle.fts_routes.specs.Objects.{settings_in}
use Rattle.fts_routes.proofs.Banning.{cancelled-by_ban}
use Rattle.fts_routes.proofs.bans.cancelled_by_ban.Goals.{else-cancel-via-then-cancel+else-is_known, else-cancel-via-else-cancel}
use Rattle.fts_routes.proofs.bans.cancelled_by_ban.Goals as goal

counted : (cancel listed : Bool) (count : ℕ) → cancel ≡ true → listed ≡ true → (if cancel && listed then count else 0) ≡ count
counted cancel listed count asked known = rw (asked, known) refl

not_listed : (cancel listed : Bool) (count : ℕ) → cancel ≡ true → listed ≡ false → (if cancel && listed then count else 0) ≡ 0
not_listed cancel listed count asked unknown = rw (asked, unknown) refl

not_cancelled : (cancel listed : Bool) (count : ℕ) → cancel ≡ false → (if cancel && listed then count else 0) ≡ 0
not_cancelled cancel listed count unasked = rw unasked refl

pub returns-then-is_known : goal.returns-then-is_known
returns-then-is_known c = λ now.
    c.count_cancelled.ensures
    ∙ sym (cancelled-by_ban c.args.desk.now.tables now c.args.storage.now c.args.cancel
    ∙ counted c.args.cancel (is_listed (settings_in c.args.desk.now.tables).endpoints c.args.storage.now)
    (count_cancelled c.args.desk.now.tables.jobs (waits_at c.args.storage.now) c.args.desk.now.tables.rows)
    c.if-cancel.true (sym c.is_known.ensures ∙ c.if-is_known.true))

pub returns-else-cancel : goal.returns-else-cancel
returns-else-cancel c = λ now.
    sym (cancelled-by_ban c.args.desk.now.tables now c.args.storage.now c.args.cancel ∙ elim c.else-cancel.branch [
      | else-cancel-via-then-cancel+else-is_known w ↦
          not_listed c.args.cancel (is_listed (settings_in c.args.desk.now.tables).endpoints c.args.storage.now)
          (count_cancelled c.args.desk.now.tables.jobs (waits_at c.args.storage.now) c.args.desk.now.tables.rows)
          w.if-cancel.true (sym w.is_known.ensures ∙ w.if-is_known.false)
      | else-cancel-via-else-cancel w ↦
          not_cancelled c.args.cancel (is_listed (settings_in c.args.desk.now.tables).endpoints c.args.storage.now)
          (count_cancelled c.args.desk.now.tables.jobs (waits_at c.args.storage.now) c.args.desk.now.tables.rows) w.if-cancel.false
    ])
