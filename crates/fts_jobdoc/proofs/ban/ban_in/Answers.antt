-- The rules one after the other, and the ban of a document that breaks none.
use Rattle.std.proofs.Common.{◌≡◌, Some, None, false, true, inl, refl, sym, ◌∙◌, rules}
use Rattle.serde_json.specs.View.{view}
use Rattle.fts_jobdoc.specs.Json.{is_object}
use Rattle.fts_jobdoc.specs.Bans.{storage_in, has_bad_status, ban_rules, ban_in}
use Rattle.fts_jobdoc.proofs.ban.ban_in.Goals as goal

pub returns-then-not-is_object : goal.returns-then-not-is_object
unfolding ban_rules ban_in
returns-then-not-is_object c =
    let object : is_object (view c.args.document.now) ≡ false = search rules in
    inl (rw object refl)

pub returns-in_default : goal.returns-in_default
unfolding ban_rules ban_in
returns-in_default c =
    let object : is_object (view c.args.document.now) ≡ true = search rules in
    let storage : storage_in (view c.args.document.now) ≡ None = sym c.in_ok-storage.ensures ∙ c.in_default.is in
    inl (rw (object, storage) refl)

pub returns-then-has_bad_status : goal.returns-then-has_bad_status
unfolding ban_rules ban_in
returns-then-has_bad_status c =
    let object : is_object (view c.args.document.now) ≡ true = search rules in
    let storage : storage_in (view c.args.document.now) ≡ Some c.in-Some.storage = sym c.in_ok-storage.ensures ∙ c.in-Some.is in
    let status : has_bad_status (view c.args.document.now) ≡ true = search rules in
    inl (rw (object, storage, status) refl)

pub returns : goal.returns
unfolding ban_rules ban_in
returns c =
    let object : is_object (view c.args.document.now) ≡ true = search rules in
    let storage : storage_in (view c.args.document.now) ≡ Some c.in-Some.storage = sym c.in_ok-storage.ensures ∙ c.in-Some.is in
    let status : has_bad_status (view c.args.document.now) ≡ false = search rules in
    inl (rw (object, storage, status, c.is_cancelling.ensures) refl)
