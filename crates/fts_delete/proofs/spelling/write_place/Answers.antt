-- The texts of a place keep the rules of their types.
use Rattle.std.proofs.lemmas.Bool.{and_from}
use Rattle.fts_record.specs.Proper.{is_name_text, is_path_text}
use Rattle.fts_record.proofs.TextReader.{name_text, path_text}
use Rattle.fts_delete.proofs.spelling.write_place.Goals as goal

pub returns-in_err-write_text-clause-proper : goal.returns-in_err-write_text-clause-proper
returns-in_err-write_text-clause-proper c =
    and_from (is_name_text c.args.place.now.endpoint) (is_path_text c.args.place.now.path)
    (name_text c.args.place.now.endpoint (rw c.as_str-endpoint.ensures.text at c.as_str-endpoint.utf8) c.as_str-endpoint.ensures.name)
    (path_text c.args.place.now.path (rw c.as_str-path.ensures.text at c.as_str-path.utf8) c.as_str-path.ensures.key)

pub returns-clause-proper : goal.returns-clause-proper
returns-clause-proper c =
    and_from (is_name_text c.args.place.now.endpoint) (is_path_text c.args.place.now.path)
    (name_text c.args.place.now.endpoint (rw c.as_str-endpoint.ensures.text at c.as_str-endpoint.utf8) c.as_str-endpoint.ensures.name)
    (path_text c.args.place.now.path (rw c.as_str-path.ensures.text at c.as_str-path.utf8) c.as_str-path.ensures.key)
