-- A text that keeps the rule, and one that breaks it.
use Rattle.std.proofs.Common.{◌≡◌, Some, sym}
use Rattle.fts_tables.specs.Names.{is_path_key}
use Rattle.fts_record.specs.Fields.{text_of}
use Rattle.fts_record.specs.Reading.{path_at}
use Rattle.fts_record.proofs.TextReader.{rule_is_kept, rule_is_broken}
use Rattle.fts_delete.proofs.reading.path_at.Goals as goal

pub returns-in-Some-2 : goal.returns-in-Some-2
unfolding path_at
returns-in-Some-2 c =
    let found : text_of c.args.bytes.now ≡ Some (c.in-Some.text, c.in-Some.rest.now) = sym (rw c.in-Some.is at c.in_ok-text.ensures) in
    rule_is_kept is_path_key _ _ _ _ found (rw (c.as_str.ensures, c.in-Some-2.is) at c.in_ok-path-in-Some.ensures)

pub returns-in-Some : goal.returns-in-Some
unfolding path_at
returns-in-Some c =
    let found : text_of c.args.bytes.now ≡ Some (c.in-Some.text, c.in-Some.rest.now) = sym (rw c.in-Some.is at c.in_ok-text.ensures) in
    rule_is_broken is_path_key _ _ _ found (rw (c.as_str.ensures, c.in-None-2.is) at c.in_ok-path-in-Some.ensures)
