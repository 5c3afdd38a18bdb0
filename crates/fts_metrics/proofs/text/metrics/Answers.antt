-- The texts of all metrics, one behind the other.
use Rattle.std.proofs.Common.{◌≡◌, ◌++◌, ◌∙◌, List, ℕ, Bor, ap}
use Rattle.std.specs.Prelude.{map}
use Rattle.fts_tables.specs.declared.rows.FileRow.{FileRow}
use Rattle.fts_counts.specs.Listed.{endpoints_of, links_of}
use Rattle.fts_metrics.specs.Metrics.{jobs_text, files_text, copied_text, reports_text, link_active_text, link_limit_text, endpoint_active_text, endpoint_limit_text, sizes_text, last_entry_text}
use Rattle.fts_metrics.proofs.ActiveRows.{active_of, link_active_same, endpoint_active_same}
use Rattle.fts_metrics.proofs.text.metrics.Goals as goal

pub returns : goal.returns
returns c =
    let tables = c.args.desk.now.tables in
    let rows = c.rows-rows.ensures.rows in
    let reports = c.reports.ensures in
    let endpoints : c.endpoints_of-endpoints.result.now ≡ endpoints_of tables.settings = c.endpoints_of-endpoints.ensures.endpoints ∙ ap endpoints_of c.settings.ensures in
    let links : c.links_of-links.result.now ≡ links_of tables.settings = c.links_of-links.ensures.links ∙ ap links_of c.settings-2.ensures in
    let goings = c.deref-2.ensures.value ∙ c.in_ok-goings.ensures in
    let jobs = c.in_ok-put_jobs.ensures ∙ ap (λ (l : List ℕ). l ++ jobs_text tables) c.new-text.ensures.items in
    let files = c.in_ok-put_files.ensures c.rows-rows.result.now goings ∙ (λ i. jobs i ++ files_text (rows i) (endpoints i)) in
    let copied = c.in_ok-put_copies.ensures tables c.reports.result.now c.in_ok-totals.ensures
    ∙ (λ i. files i ++ copied_text tables (reports i) (endpoints i)) in
    let reported = c.in_ok-put_copies-2.ensures tables c.reports.result.now c.in_ok-totals.ensures
    ∙ (λ i. copied i ++ reports_text tables (reports i) (endpoints i)) in
    let rows_of = λ (seen : List (Bor FileRow)). map (λ (row : Bor FileRow). row.now) seen in
    let active = ap rows_of c.deref-3.ensures.value ∙ c.in_ok-active.ensures ∙ (λ i. active_of (rows i)) in
    let active_again = ap rows_of c.deref-4.ensures.value ∙ c.in_ok-active.ensures ∙ (λ i. active_of (rows i)) in
    let active_links = ap (λ (rows : List FileRow). link_active_text rows c.links_of-links.result.now) active
    ∙ ap (link_active_text (active_of tables.rows)) links ∙ link_active_same tables.rows (links_of tables.settings) in
    let active_ends = ap (λ (rows : List FileRow). endpoint_active_text rows c.endpoints_of-endpoints.result.now) active_again
    ∙ ap (endpoint_active_text (active_of tables.rows)) endpoints ∙ endpoint_active_same tables.rows (endpoints_of tables.settings) in
    let link_active = c.in_ok-put_link_active.ensures ∙ (λ i. reported i ++ active_links i) in
    let link_limit = c.in_ok-put_link_limit.ensures ∙ (λ i. link_active i ++ link_limit_text (links i)) in
    let endpoint_active = c.in_ok-put_endpoint_active.ensures ∙ (λ i. link_limit i ++ active_ends i) in
    let endpoint_limit = c.in_ok-put_endpoint_limit.ensures ∙ (λ i. endpoint_active i ++ endpoint_limit_text (endpoints i)) in
    let sizes = c.in_ok-put_sizes.ensures ∙ (λ i. endpoint_limit i ++ sizes_text (rows i) c.args.used) in
    c.in_ok-put_last_entry.ensures ∙ (λ i. sizes i ++ last_entry_text (c.moment.ensures i))
