use Rattle.std.proofs.Common.{ℕ, Option, List, ◌++◌, string_bytes, sym, ◌∙◌, ap, map}
use Rattle.fts_files.proofs.Playing.{then_leads, chosen, left}
use Rattle.fts_store.specs.Meeting.{known_of, known_at}
use Rattle.fts_store.specs.declared.folders.Met.{Met}
use Rattle.fts_store.proofs.Lookings.{look_leads}
use Rattle.fts_store.proofs.meeting.meet_one.Goals as goal

pub returns-then-not-are_names-clause-looked : goal.returns-then-not-are_names-clause-looked
returns-then-not-are_names-clause-looked g c next = left _ _ _ _ (sym (rw c.as_bytes.ensures.value at c.are_names.ensures) ∙ c.if-not-are_names.true)

pub returns-clause-looked : goal.returns-clause-looked
returns-clause-looked g c next =
    let folder = string_bytes c.in_ok-folder.folder in
    let seen = c.see_folder-device.ensures in
    then_leads (chosen _ _ _ _ (sym (rw c.as_bytes.ensures.value at c.are_names.ensures) ∙ c.if-not-are_names.false))
    (look_leads c.args.root.now c.args.name.now folder _ _ next _ _ seen.0 c.in_ok-folder.ensures (rw c.as_str.ensures.value at seen.1.0)
    (c.keep_known.ensures ∙ ap (λ (met : List Met). map known_of met ++ known_at folder c.see_folder-device.result) c.reserve.ensures.items
    ∙ ap (λ (device : Option ℕ). map known_of c.args.met.now.items ++ known_at folder device) seen.1.1))
