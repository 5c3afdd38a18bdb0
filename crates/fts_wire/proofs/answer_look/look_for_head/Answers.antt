-- A head is compared with the bytes, and then they with it.
use Rattle.std.proofs.Common.{◌≡◌, ◌∙◌, sym, ap, refl, [], ◌++◌, length, drop, append-nil, true≢false}
use Rattle.std.proofs.lemmas.Bool.Decides.{Decides-eqb}
use Rattle.std.proofs.lemmas.Slice.Eq.{starts_is}
use Rattle.fts_wire.specs.Response.{head_of}
use Rattle.fts_wire.proofs.AnswerHeads.{stands_by, short_of_head, follows_none}
use Rattle.fts_wire.proofs.answer_look.look_for_head.Goals as goal

pub returns-then-starts_with : goal.returns-then-starts_with
returns-then-starts_with c =
    let head = c.as_bytes-head.result.now in
    let same : head ≡ head_of c.args.status c.args.body c.args.allow c.args.close =
    c.as_bytes-head.ensures.value ∙ (c.as_str.ensures.value ∙ c.response_head-made.ensures) in
    let is = starts_is Decides-eqb c.args.bytes.now head c.starts_with.result c.starts_with.ensures.value in
    stands_by c.args.bytes.now c.args.status c.args.body (length head) c.args.allow c.args.close head
    c.requires.phrase c.requires.methods c.requires.few same refl (is.0 c.if-starts_with.true)

pub returns-then-starts_with-2 : goal.returns-then-starts_with-2
returns-then-starts_with-2 c =
    let bytes = c.args.bytes.now in
    let head = c.as_bytes-head.result.now in
    let same : head ≡ head_of c.args.status c.args.body c.args.allow c.args.close =
    c.as_bytes-head.ensures.value ∙ (c.as_str.ensures.value ∙ c.response_head-made.ensures) in
    let first = starts_is Decides-eqb bytes head c.starts_with.result c.starts_with.ensures.value in
    let second = starts_is Decides-eqb head bytes c.starts_with-2.result c.starts_with-2.ensures.value in
    let cut : head ≡ bytes ++ drop (length bytes) head = second.0 c.if-starts_with-2.true in
    short_of_head bytes (drop (length bytes) head) c.args.status c.args.body c.args.allow c.args.close c.requires.phrase c.requires.methods c.requires.few
    (sym same ∙ cut)
    (λ none. let all : bytes ≡ head ++ [] = sym (append-nil bytes) ∙ (ap (λ list. bytes ++ list) (sym none) ∙ (sym cut ∙ sym (append-nil head))) in
    true≢false (sym (first.1 [] all) ∙ c.if-starts_with.false))

pub returns-else-starts_with-2 : goal.returns-else-starts_with-2
returns-else-starts_with-2 c =
    let bytes = c.args.bytes.now in
    let head = c.as_bytes-head.result.now in
    let same : head ≡ head_of c.args.status c.args.body c.args.allow c.args.close =
    c.as_bytes-head.ensures.value ∙ (c.as_str.ensures.value ∙ c.response_head-made.ensures) in
    let first = starts_is Decides-eqb bytes head c.starts_with.result c.starts_with.ensures.value in
    let second = starts_is Decides-eqb head bytes c.starts_with-2.result c.starts_with-2.ensures.value in
    follows_none bytes (head_of c.args.status c.args.body c.args.allow c.args.close)
    (λ rest is. true≢false (sym (first.1 rest (is ∙ ap (λ list. list ++ rest) (sym same))) ∙ c.if-starts_with.false))
    (λ rest is. true≢false (sym (second.1 rest (same ∙ is)) ∙ c.if-starts_with-2.false))
