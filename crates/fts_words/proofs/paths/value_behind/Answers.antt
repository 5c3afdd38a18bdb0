-- One word more: it is the value, or it is passed.
use Rattle.std.proofs.Common.{map, string_bytes, refl, ap, sym, ◌∙◌, arith, ◌<◌, Option}
use Rattle.std.specs.Option.{option_copied}
use Rattle.std.proofs.Common.{Bor, List, ℕ, drop, ◌+◌}
use Rattle.fts_words.specs.Words.{value_behind}
use Rattle.fts_words.proofs.Named.{found_next, passed_next, waits_next, found_joined, passed_joined, ended}
use Rattle.fts_words.proofs.paths.value_behind.Goals as goal
use Rattle.fts_words.proofs.paths.value_behind.Goals.{in-Some+else-eq, in-None+in-Some-split_once+else-eq-2, in-None+in-None-split_once}

pub loop-word-init : goal.loop-word-init
loop-word-init c = refl

pub returns-then-eq : goal.returns-then-eq
returns-then-eq c = found_next c.args.wanted.now c.args.words.now c.loop-word.word-index c.word-item.result c.loop-word-test.true c.word-item.is c.loop-word.waiting c.loop-word.invariant
    c.as_str-text.result.now c.as_str-text.ensures.value c.in-Some.name c.in-Some.is (sym c.eq.ensures ∙ c.if-eq.true)

pub returns-then-eq-2 : goal.returns-then-eq-2
returns-then-eq-2 c =
    let small : 61 < 128 = omega arith in
    let parts = c.in-Some-split_once.ensures.byte small (λ w o finds. finds) in
    found_joined c.args.wanted.now c.args.words.now c.loop-word.word-index c.word-item.result c.loop-word-test.true c.word-item.is c.loop-word.waiting c.loop-word.invariant
    c.as_str-text.result.now c.as_str-text.ensures.value c.in-None.is c.in-Some-split_once.name.now c.in-Some-split_once.value.now parts.2 parts.0 parts.1
    (sym c.eq-in-Some-split_once.ensures ∙ c.if-eq-2.true)

pub loop-word-preserved : goal.loop-word-preserved
loop-word-preserved c =
    let small : 61 < 128 = omega arith in
    elim c.match-waiting.branch [
      | in-Some+else-eq w ↦
          passed_next c.args.wanted.now c.args.words.now c.loop-word.word-index c.word-item.result c.loop-word-test.true c.word-item.is c.loop-word.waiting c.loop-word.invariant
          c.as_str-text.result.now c.as_str-text.ensures.value w.in-Some.name w.in-Some.is (sym w.eq.ensures ∙ w.if-eq.false)
          ∙ ap (λ (o : Option (Bor (List ℕ))). value_behind c.args.wanted.now (option_copied o) (drop (c.loop-word.word-index + 1) (map string_bytes c.args.words.now))) (sym w.waiting-is)
      | in-None+in-Some-split_once+else-eq-2 w ↦
          let parts = w.in-Some-split_once.ensures.byte small (λ x o finds. finds) in
          passed_joined c.args.wanted.now c.args.words.now c.loop-word.word-index c.word-item.result c.loop-word-test.true c.word-item.is c.loop-word.waiting c.loop-word.invariant
          c.as_str-text.result.now c.as_str-text.ensures.value w.in-None.is w.in-Some-split_once.name.now w.in-Some-split_once.value.now parts.2 parts.0 parts.1
          (sym w.eq-in-Some-split_once.ensures ∙ w.if-eq-2.false)
          ∙ ap (λ (o : Option (Bor (List ℕ))). value_behind c.args.wanted.now (option_copied o) (drop (c.loop-word.word-index + 1) (map string_bytes c.args.words.now))) (sym (w.waiting-is ∙ w.in-None.is))
      | in-None+in-None-split_once w ↦
          waits_next c.args.wanted.now c.args.words.now c.loop-word.word-index c.word-item.result c.loop-word-test.true c.word-item.is c.loop-word.waiting c.loop-word.invariant
          c.as_str-text.result.now c.as_str-text.ensures.value w.in-None.is (w.in-None-split_once.ensures.byte small (λ x o finds. finds))
          ∙ ap (λ (o : Option (Bor (List ℕ))). value_behind c.args.wanted.now (option_copied o) (drop (c.loop-word.word-index + 1) (map string_bytes c.args.words.now))) (sym w.waiting-is)
    ]

pub returns : goal.returns
returns c = ended c.args.wanted.now c.args.words.now c.loop-word.word-index c.loop-word.waiting c.loop-word-test.false c.loop-word.invariant
