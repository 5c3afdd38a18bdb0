-- One word more of a command's options: it is a name, or a value, or both.
use Rattle.std.proofs.Common.{◌+◌, ◌<◌, Some, None, map, drop, string_bytes, refl, ap, sym, ◌∙◌, arith}
use Rattle.fts_words.specs.declared.options.Given.{Given}
use Rattle.fts_words.proofs.Reading.{begins, Cuts, cut_none, cut_twice, cut_more, reads_waiting, reads_equals, reads_name}
use Rattle.fts_words.proofs.reader.read_options.Goals as goal
use Rattle.fts_words.proofs.reader.read_options.Goals.{in-Some+in_ok-option-in-Some, in-None+in-Some-split_once+in_ok-option-in-Some-split_once}

pub words-init : goal.words-init
words-init c = begins c.args.command (map string_bytes c.args.words.now) _ refl

pub returns-in_err-option-in-Some-clause-asked : goal.returns-in_err-option-in-Some-clause-asked
returns-in_err-option-in-Some-clause-asked c =
    c.from_residual.ensures
    ∙ cut_none c.args.command (map string_bytes c.args.words.now) (drop (c.words.word-index + 1) (map string_bytes c.args.words.now)) c.words.numbers
    (reads_waiting c.args.command c.args.words.now c.words.word-index c.word-item.result c.words-test.true c.word-item.is c.words.numbers c.words.waiting c.words.invariant
    c.as_str-text.result.now c.as_str-text.ensures.value c.in-Some.name None c.in-Some.is (sym c.in_err-option-in-Some.was ∙ c.read.ensures))

pub returns-in_err-option-in-Some-split_once-clause-asked : goal.returns-in_err-option-in-Some-split_once-clause-asked
returns-in_err-option-in-Some-split_once-clause-asked c =
    let small : 61 < 128 = omega arith in
    let parts = c.in-Some-split_once.ensures.byte small (λ w o finds. finds) in
    c.from_residual-in_err-option-in-Some-split_once.ensures
    ∙ cut_none c.args.command (map string_bytes c.args.words.now) (drop (c.words.word-index + 1) (map string_bytes c.args.words.now)) c.words.numbers
    (reads_equals c.args.command c.args.words.now c.words.word-index c.word-item.result c.words-test.true c.word-item.is c.words.numbers c.words.waiting c.words.invariant
    c.as_str-text.result.now c.as_str-text.ensures.value c.in-None.is c.in-Some-split_once.name.now c.in-Some-split_once.value.now None parts.2 parts.0 parts.1
    (sym c.in_err-option-in-Some-split_once.was ∙ c.read-in-Some-split_once.ensures))

pub words-preserved-in-None-split_once : goal.words-preserved-in-None-split_once
words-preserved-in-None-split_once c =
    let small : 61 < 128 = omega arith in
    reads_name c.args.command c.args.words.now c.words.word-index c.word-item.result c.words-test.true c.word-item.is c.words.numbers c.words.waiting c.words.invariant
    c.as_str-text.result.now c.as_str-text.ensures.value c.in-None.is (c.in-None-split_once.ensures.byte small (λ w o finds. finds))

pub returns-in_err-numbers-clause-asked : goal.returns-in_err-numbers-clause-asked
returns-in_err-numbers-clause-asked c =
    let small : 61 < 128 = omega arith in
    let cuts : Cuts c.args.command (map string_bytes c.args.words.now) (drop (c.words.word-index + 1) (map string_bytes c.args.words.now)) (Some c.match-waiting.option) c.words.numbers
    = elim c.match-waiting.branch [
      | in-Some+in_ok-option-in-Some w ↦
          reads_waiting c.args.command c.args.words.now c.words.word-index c.word-item.result c.words-test.true c.word-item.is c.words.numbers c.words.waiting c.words.invariant
          c.as_str-text.result.now c.as_str-text.ensures.value w.in-Some.name (Some c.match-waiting.option) w.in-Some.is
          (ap (λ (o : Given). Some o) w.option-is ∙ (sym w.in_ok-option-in-Some.was ∙ w.read.ensures))
      | in-None+in-Some-split_once+in_ok-option-in-Some-split_once w ↦
          let parts = w.in-Some-split_once.ensures.byte small (λ x o finds. finds) in
          reads_equals c.args.command c.args.words.now c.words.word-index c.word-item.result c.words-test.true c.word-item.is c.words.numbers c.words.waiting c.words.invariant
          c.as_str-text.result.now c.as_str-text.ensures.value w.in-None.is w.in-Some-split_once.name.now w.in-Some-split_once.value.now (Some c.match-waiting.option)
          parts.2 parts.0 parts.1 (ap (λ (o : Given). Some o) w.option-is ∙ (sym w.in_ok-option-in-Some-split_once.was ∙ w.read-in-Some-split_once.ensures))
    ] in
    c.from_residual-in_err-numbers.ensures
    ∙ cut_twice c.args.command (map string_bytes c.args.words.now) (drop (c.words.word-index + 1) (map string_bytes c.args.words.now)) c.words.numbers
    c.match-waiting.option cuts c.with.result c.with.ensures c.in_err-numbers.was

pub words-preserved : goal.words-preserved
words-preserved c =
    let small : 61 < 128 = omega arith in
    let cuts : Cuts c.args.command (map string_bytes c.args.words.now) (drop (c.words.word-index + 1) (map string_bytes c.args.words.now)) (Some c.match-waiting.option) c.words.numbers
    = elim c.match-waiting.branch [
      | in-Some+in_ok-option-in-Some w ↦
          reads_waiting c.args.command c.args.words.now c.words.word-index c.word-item.result c.words-test.true c.word-item.is c.words.numbers c.words.waiting c.words.invariant
          c.as_str-text.result.now c.as_str-text.ensures.value w.in-Some.name (Some c.match-waiting.option) w.in-Some.is
          (ap (λ (o : Given). Some o) w.option-is ∙ (sym w.in_ok-option-in-Some.was ∙ w.read.ensures))
      | in-None+in-Some-split_once+in_ok-option-in-Some-split_once w ↦
          let parts = w.in-Some-split_once.ensures.byte small (λ x o finds. finds) in
          reads_equals c.args.command c.args.words.now c.words.word-index c.word-item.result c.words-test.true c.word-item.is c.words.numbers c.words.waiting c.words.invariant
          c.as_str-text.result.now c.as_str-text.ensures.value w.in-None.is w.in-Some-split_once.name.now w.in-Some-split_once.value.now (Some c.match-waiting.option)
          parts.2 parts.0 parts.1 (ap (λ (o : Given). Some o) w.option-is ∙ (sym w.in_ok-option-in-Some-split_once.was ∙ w.read-in-Some-split_once.ensures))
    ] in
    cut_more c.args.command (map string_bytes c.args.words.now) (drop (c.words.word-index + 1) (map string_bytes c.args.words.now)) c.words.numbers
    c.match-waiting.option cuts c.with.result c.with.ensures c.in_ok-numbers.numbers c.in_ok-numbers.was
