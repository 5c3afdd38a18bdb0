use Rattle.std.proofs.Common.{filter, sym, ◌∙◌, rules}
use Rattle.fts_files.proofs.Playing.{then_leads, leads_same, chosen, left}
use Rattle.fts_store.specs.Sweep.{is_part_name, parts_in, clears_each}
use Rattle.fts_store.proofs.Listings.{stops, goes_on, up_to, listed_leads, unlisted}
use Rattle.fts_store.proofs.sweep.sweep_folder.Goals as goal

pub returns-then-not-are_names : goal.returns-then-not-are_names
returns-then-not-are_names g c next = goes_on (left _ _ next _ (sym (rw c.as_bytes.ensures.value at c.are_names.ensures) ∙ c.if-not-are_names.true))

pub returns-in_err-folder : goal.returns-in_err-folder
returns-in_err-folder g c next = stops c.from_residual.result (λ done. next) (leads_same _ _) (search rules)

pub returns-in_err-names : goal.returns-in_err-names
returns-in_err-names g c next =
    let first = chosen _ _ next _ (sym (rw c.as_bytes.ensures.value at c.are_names.ensures) ∙ c.if-not-are_names.false) in
    let rest = unlisted _ (λ names. clears_each (parts_in c.args.root.now c.args.name.now) (filter is_part_name names) next) _ _ first
    (rw (c.as_str.ensures.value, c.in_ok-folder.ensures) at c.in_err-names.ensures) in
    stops c.from_residual-in_err-names.result (λ done. next) rest.1 (search rules)

pub returns : goal.returns
returns g c next =
    let is = c.as_str.ensures.value ∙ c.in_ok-folder.ensures in
    up_to _ (λ done. next) (then_leads (chosen _ _ next _ (sym (rw c.as_bytes.ensures.value at c.are_names.ensures) ∙ c.if-not-are_names.false))
    (listed_leads c.as_str.result.now _ (λ names. clears_each (parts_in c.args.root.now c.args.name.now) (filter is_part_name names) next) _ _ _
    c.in_ok-names.ensures.0 is c.in_ok-names.ensures.1 c.in_ok-names.ensures.2))
    ((rw (c.as_slice.ensures.value, c.as_str-2.ensures.value, c.in_ok-folder.ensures) at c.clear_parts.ensures) next)
