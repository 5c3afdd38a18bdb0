-- The link is another one where it has a row and isn't listed.
use Rattle.std.proofs.Common.{◌≡◌, ◌++◌, ◌∙◌, List, [], ◌∷◌, ℕ, Bool, true, false, ap, sym, cond, subst, append-nil, length, map}
use Rattle.std.specs.Prelude.{not, ◌&&◌, ◌==◌, OnOk}
use Rattle.serde_json.specs.Data.{Data}
use Rattle.fts_tables.specs.Limits.{is_on_link}
use Rattle.fts_tables.specs.Tables.{Tables}
use Rattle.fts_tables.specs.declared.settings.LinkRule.{LinkRule}
use Rattle.fts_chronicle.specs.declared.chronicle.CopyReport.{CopyReport}
use Rattle.fts_counts.specs.Listed.{links_of}
use Rattle.fts_board.specs.Snapshot.{default_limit_of, rows_on, is_link_listed, link_object, others_at}
use Rattle.fts_board.specs.Boards.{shown_link}
use Rattle.fts_board.proofs.Tallied.{any_kept}
use Rattle.fts_board.proofs.links.add_other.Goals as goal

-- what an answer says of the link
others_are : (tables : Tables) (reports : List CopyReport) (source dest : List ℕ) (links : List LinkRule) (count : ℕ) (answer : Bool)
    → links ≡ links_of tables.settings → count ≡ length (rows_on tables.rows source dest)
    → (not (count == 0) && not (is_link_listed links source dest)) ≡ answer
    → others_at tables reports source dest
    ≡ cond answer (link_object tables.rows reports source dest [] (default_limit_of tables.settings) ∷ []) []
others_are tables reports source dest links count answer are counted is =
    ap (λ answer. cond answer (link_object tables.rows reports source dest [] (default_limit_of tables.settings) ∷ []) [])
    ((λ i. any_kept (is_on_link source dest) tables.rows i && not (is_link_listed (sym are i) source dest))
    ∙ (λ i. not (sym counted i == 0) && not (is_link_listed links source dest)) ∙ is)

pub returns-then-is_other : goal.returns-then-is_other
returns-then-is_other c = λ tables reports board from to.
    let source = c.args.source.now in
    let dest = c.args.dest.now in
    let others = others_are tables reports source dest c.args.board.now.links.now c.link_shown-link.result.rows.rows true board.links
    (c.link_shown-link.ensures.rows tables reports board from to) (sym c.is_other.ensures ∙ c.if-is_other.true) in
    let shown = c.link_shown-link.ensures.shown tables reports board from to ∙ ap (link_object tables.rows reports source dest []) board.limit in
    subst (λ (l : List Data). OnOk c.add.result (map shown_link c.add.new.links.items ≡ map shown_link c.args.links.now.items ++ l))
    (ap (λ (value : Data). value ∷ []) shown ∙ sym others) c.add.ensures

pub returns-else-is_other : goal.returns-else-is_other
returns-else-is_other c = λ tables reports board from to.
    let others = others_are tables reports c.args.source.now c.args.dest.now c.args.board.now.links.now c.link_shown-link.result.rows.rows false board.links
    (c.link_shown-link.ensures.rows tables reports board from to) (sym c.is_other.ensures ∙ c.if-is_other.false) in
    sym (ap (λ (l : List Data). map shown_link c.args.links.now.items ++ l) others ∙ append-nil (map shown_link c.args.links.now.items))
