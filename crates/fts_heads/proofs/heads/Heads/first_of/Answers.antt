use Rattle.std.proofs.Common.{◌≡◌, true, false, map, ap, sym, ◌∙◌, subst}
use Rattle.std.specs.Prelude.{◌&&◌, find, IfSome, IfNone}
use Rattle.ordered.specs.Orders.{AreSortedBy, KeySet, has_key}
use Rattle.fts_heads.specs.declared.ripe_file.RipeFile.{RipeFile}
use Rattle.fts_heads.specs.declared.ripe_file.Lined.{Lined}
use Rattle.fts_heads.specs.Keys.{is_line_before}
use Rattle.fts_heads.specs.RipeFiles.{goes_by_group, is_in}
use Rattle.fts_heads.specs.Heads.{HeadsData, is_open, IsFirstOf}
use Rattle.fts_heads.proofs.Firsts.{first_is, none_is, if_some, if_none}
use Rattle.fts_heads.proofs.heads.Heads.first_of.Goals as goal

-- what is asked of the files in line
sorted : (c : goal.After-first_in_line) → AreSortedBy is_line_before c.self.inside.line.keys
sorted c = subst (λ (set : KeySet Lined). AreSortedBy is_line_before set.keys) c.files.ensures.files c.len-2.ensures.order

found : (c : goal.After-first_in_line) → c.first_in_line.result ≡ find (is_in c.args.queue) (map (λ key. key.waiter) c.self.inside.line.keys)
found c =
    c.first_in_line.ensures.first ∙ ap (λ (set : KeySet Lined). find (is_in c.args.queue) (map (λ key. key.waiter) set.keys)) c.files-2.ensures.files

pub returns-clause-first : goal.returns-clause-first
returns-clause-first c =
    subst
    (λ (waiting : HeadsData). IfSome c.first_in_line.result (λ first.
    IsFirstOf (λ waiter. is_in c.args.queue waiter && is_open waiting.busy waiter.dest) waiting.files first)) c.self.view_is
    (if_some (IsFirstOf (λ waiter. is_in c.args.queue waiter && is_open c.self.inside.busy.items waiter.dest) c.self.inside.files.keys) c.first_in_line.result
    (λ first is. first_is c.self.inside.busy.items c.self.inside.files.keys c.self.inside.line.keys c.args.queue c.self.invariant.heads c.len.ensures.order
    (sorted c) first (sym (found c) ∙ is)))

pub returns-clause-none : goal.returns-clause-none
returns-clause-none c =
    subst
    (λ (waiting : HeadsData). IfNone c.first_in_line.result ((waiter : RipeFile) → has_key goes_by_group waiter waiting.files ≡ true
    → (is_in c.args.queue waiter && is_open waiting.busy waiter.dest) ≡ false)) c.self.view_is
    (if_none ((waiter : RipeFile) → has_key goes_by_group waiter c.self.inside.files.keys ≡ true
    → (is_in c.args.queue waiter && is_open c.self.inside.busy.items waiter.dest) ≡ false) c.first_in_line.result
    (λ is. none_is c.self.inside.busy.items c.self.inside.files.keys c.self.inside.line.keys c.args.queue c.self.invariant.heads c.len.ensures.order
    (sorted c) (sym (found c) ∙ is)))
