-- A request stands in the bytes that stay, where all behind it are dropped.
use Rattle.std.proofs.Common.{◌≡◌, ℕ, ◌+◌, ◌≤◌, List, [], length, take, drop, ap, ◌∙◌, sym, subst, arith, length-take, length-drop}
use Rattle.std.proofs.lemmas.List.{drop-take, take-take, nil_from_length}
use Rattle.fts_wire.specs.Look.{head_bytes, head_in, head_at, IsSpanned, StandsAt}
use Rattle.fts_wire.specs.RequestData.{asked}
use Rattle.fts_wire.specs.Room.{taken_by, request_at, IsWhole}
use Rattle.fts_wire.specs.declared.look.Head.{Head}
use Rattle.fts_wire.proofs.Bounds.{head_few}

same_head : (bytes : List ℕ) (head : Head) → head_bytes (take (taken_by head) bytes) head ≡ head_bytes bytes head
same_head bytes head =
    let rest = head.size + head.body in
    let sum : taken_by head ≡ head.before + rest = omega arith in
    ap (λ n. take head.size (drop head.before (take n bytes))) sum ∙ ap (take head.size) (drop-take head.before rest bytes)
    ∙ take-take head.size rest (drop head.before bytes) (omega arith)

same_body : (bytes : List ℕ) (head : Head)
    → take head.body (drop (head.before + head.size) (take (taken_by head) bytes)) ≡ take head.body (drop (head.before + head.size) bytes)
same_body bytes head =
    let n = head.before + head.size in
    ap (take head.body) (drop-take n head.body bytes) ∙ take-take head.body head.body (drop n bytes) (omega arith)

pub same_request : (bytes kept : List ℕ) (head : Head) → kept ≡ take (taken_by head) bytes → request_at kept head ≡ request_at bytes head
same_request bytes kept head e =
    ap (λ xs. request_at xs head) e
    ∙ ap (λ own. asked (head_in own head) (take head.body (drop (head.before + head.size) (take (taken_by head) bytes)))) (same_head bytes head)
    ∙ ap (asked (head_in (head_bytes bytes head) head)) (same_body bytes head)

pub none_behind : (bytes kept : List ℕ) (n : ℕ) → kept ≡ take n bytes → drop n kept ≡ []
none_behind bytes kept n e = nil_from_length (drop n kept) (omega (arith, length-drop n kept, ap length e, length-take n bytes))

pub still_whole : (bytes kept : List ℕ) (head : Head) → kept ≡ take (taken_by head) bytes → IsWhole bytes head → IsWhole kept head
still_whole bytes kept head e w = record {
  within = omega (arith, ap length e, length-take (taken_by head) bytes, w.within);
  few = w.few;
  spans = subst (λ own. IsSpanned own head) (sym (ap (λ xs. head_bytes xs head) e ∙ same_head bytes head)) w.spans;
}

-- a head that was found with its body is no more than a buffer holds
pub found_whole : (bytes : List ℕ) (head : Head) → StandsAt bytes head → taken_by head ≤ length bytes → IsWhole bytes head
found_whole bytes head at within =
    let few = head_few bytes (head_at bytes head) at.sight in
    record { within = within; few = omega (arith, few.0, few.1); spans = at.spans }
