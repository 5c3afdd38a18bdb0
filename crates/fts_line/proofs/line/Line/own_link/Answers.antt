use Rattle.std.proofs.Common.{◌≡◌, true, false, List, ℕ, Option, length, ap, sym, ◌∙◌, subst, arith}
use Rattle.std.specs.Prelude.{◌&&◌, ◌==◌, IfNone}
use Rattle.std.specs.List.{list_any}
use Rattle.ordered.specs.Orders.{has_key}
use Rattle.fts_tables.specs.declared.settings.LinkAt.{LinkAt}
use Rattle.fts_heads.specs.RipeFiles.{goes_by_group}
use Rattle.fts_heads.specs.declared.ripe_file.RipeFile.{RipeFile}
use Rattle.fts_line.specs.LineData.{LineData, is_on, waits_own}
use Rattle.fts_line.specs.Keys.{link_at, is_own_key}
use Rattle.fts_line.proofs.Lines.{key_on, own_file, own_ripe, own_waits, none_waits}
use Rattle.fts_line.proofs.line.Line.own_link.Goals as goal

pub returns-in-Some-clause-answer : goal.returns-in-Some-clause-answer
returns-in-Some-clause-answer c =
    let inside = c.self.inside in
    sym (ap (λ (view : LineData). waits_own view c.args.file) (sym c.self.view_is)
    ∙ own_waits inside.dests.items inside.rests.items inside.moment inside.heads.files c.self.invariant.due c.args.file (omega (arith, c.ranges.file.fits))
    c.in-Some.key c.in-Some.ensures.there
    (ap (λ (dests : List ℕ). is_own_key dests c.args.file c.in-Some.key) (sym c.as_slice.ensures.value) ∙ c.in-Some.ensures.own))

pub returns-in-Some-clause-waits : goal.returns-in-Some-clause-waits
returns-in-Some-clause-waits c =
    let inside = c.self.inside in
    let key = c.in-Some.key in
    let own : is_own_key inside.dests.items c.args.file key ≡ true =
    ap (λ (dests : List ℕ). is_own_key dests c.args.file key) (sym c.as_slice.ensures.value) ∙ c.in-Some.ensures.own in
    let file = own_file inside.dests.items c.args.file key own in
    ap (λ (link : LinkAt). list_any (λ waiter. (waiter.file == c.args.file) && is_on link waiter) c.args.self.now.waiting.waiters) c.link_at.ensures.link
    ∙ (ap (λ n. list_any (λ waiter. (waiter.file == n) && is_on (link_at key.queue) waiter) c.args.self.now.waiting.waiters) (sym file)
    ∙ (ap (λ (view : LineData). list_any (λ waiter. (waiter.file == key.file) && is_on (link_at key.queue) waiter) view.waiting.waiters) (sym c.self.view_is)
    ∙ key_on inside.rests.items inside.heads.files key c.in-Some.ensures.there
    (own_ripe inside.dests.items c.args.file key (omega (arith, c.ranges.file.fits)) own)))

pub returns-in-None-clause-answer : goal.returns-in-None-clause-answer
returns-in-None-clause-answer c =
    let inside = c.self.inside in
    sym (ap (λ (view : LineData). waits_own view c.args.file) (sym c.self.view_is)
    ∙ none_waits inside.dests.items (length inside.heads.busy) inside.rests.items inside.moment inside.heads.files c.self.invariant.keys c.self.invariant.due
    c.args.file (subst (λ (dests : List ℕ). (key : RipeFile) → has_key goes_by_group key inside.heads.files ≡ true → is_own_key dests c.args.file key ≡ false)
    c.as_slice.ensures.value
    (subst (λ (some : Option RipeFile). IfNone some ((key : RipeFile) → has_key goes_by_group key inside.heads.files ≡ true
    → is_own_key c.as_slice.result.now c.args.file key ≡ false)) c.in-None.is c.own_key.ensures.none)))
