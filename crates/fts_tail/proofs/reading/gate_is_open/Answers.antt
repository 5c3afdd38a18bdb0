-- Where the disk tells its contents, what was passed still stands there.
use Rattle.std.proofs.Common.{ap, sym, ◌∙◌, List, ℕ, ◌-◌, ◌++◌, take, drop, length, take-append-drop}
use Rattle.std.proofs.lemmas.Bool.Decides.{Decides-eqb}
use Rattle.std.proofs.lemmas.Slice.Eq.{starts_is}
use Rattle.fts_tail.proofs.Gate.{still_there}
use Rattle.fts_tail.proofs.reading.gate_is_open.Goals as goal

pub returns-then-not-starts_with-clause-cause : goal.returns-then-not-starts_with-clause-cause
returns-then-not-starts_with-clause-cause g c = λ told.
    let old = g.D.Disk.state c.args.disk.now in
    let mid = g.D.Disk.state c.reaches.new.disk in
    let last = c.args.last.now in
    let bytes = c.deref.result.now in
    let before = c.requires.last told ∙ ap (λ (l : List ℕ). take (length last) (drop (c.args.used - length last) l)) (sym (c.reaches.ensures.quiet told).seen) in
    let read = c.deref.ensures.value ∙ c.in_ok-fill.ensures.bytes (c.reaches.ensures.told ∙ told) in
    let taken = still_there mid.seen last bytes c.args.used before read in
    let whole = sym (take-append-drop (length last) bytes) ∙ ap (λ (l : List ℕ). l ++ drop (length last) bytes) taken in
    let yes = (starts_is Decides-eqb bytes last c.starts_with.result c.starts_with.ensures.value).1 (drop (length last) bytes) whole in
    let no = c.if-not-starts_with.true in
    absurd cc
