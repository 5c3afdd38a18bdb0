-- The members, one behind the other.
use Rattle.std.proofs.Common.{◌∙◌, ap, codes}
use Rattle.serde_json.specs.Data.{object, string, put}
use Rattle.serde_json.specs.View.{view, members_view}
use Rattle.fts_tables.specs.declared.limits.TheConstants.{MAX_JOBS, MAX_ROWS, JOURNAL_END}
use Rattle.fts_board.specs.Json.{whole_number}
use Rattle.fts_board.specs.Snapshot.{vo_of}
use Rattle.fts_board.proofs.snapshots.snapshot_value.Goals as goal

pub returns : goal.returns
returns c =
    let after_damage = c.in_ok-put_value.ensures ∙ (λ i. put (codes "damage") (c.in_ok-damage.ensures i) (members_view (c.new-map.ensures.empty i))) in
    let after_entries = c.in_ok-put_number.ensures ∙ (λ i. put (codes "entries") (whole_number (c.commands_of.ensures i)) (after_damage i)) in
    let after_failures = c.in_ok-put_value-2.ensures ∙ (λ i. put (codes "failures") (view c.args.parts.failures) (after_entries i)) in
    let after_files_by_state = c.in_ok-put_value-3.ensures ∙ (λ i. put (codes "files_by_state") (view c.args.parts.files) (after_failures i)) in
    let after_fold_time = c.in_ok-put_number-2.ensures ∙ (λ i. put (codes "fold_time") (whole_number c.args.shown.fold_time) (after_files_by_state i)) in
    let after_jobs = c.in_ok-put_number-3.ensures ∙ (λ i. put (codes "jobs") (whole_number (c.jobs_of.ensures i)) (after_fold_time i)) in
    let after_jobs_by_state = c.in_ok-put_value-4.ensures ∙ (λ i. put (codes "jobs_by_state") (view c.args.parts.jobs) (after_jobs i)) in
    let after_jobs_limit = c.in_ok-put_number-4.ensures ∙ (λ i. put (codes "jobs_limit") (whole_number MAX_JOBS) (after_jobs_by_state i)) in
    let after_journal_bytes = c.in_ok-put_number-5.ensures ∙ (λ i. put (codes "journal_bytes") (whole_number c.args.shown.used) (after_jobs_limit i)) in
    let after_journal_limit_bytes = c.in_ok-put_number-6.ensures ∙ (λ i. put (codes "journal_limit_bytes") (whole_number JOURNAL_END) (after_journal_bytes i)) in
    let after_last_entry_time = c.in_ok-put_number-7.ensures ∙ (λ i. put (codes "last_entry_time") (whole_number c.args.shown.last_entry_time) (after_journal_limit_bytes i)) in
    let after_links = c.in_ok-put_value-5.ensures ∙ (λ i. put (codes "links") (view c.args.parts.links.value) (after_last_entry_time i)) in
    let after_links_left_out = c.in_ok-put_number-8.ensures ∙ (λ i. put (codes "links_left_out") (whole_number c.args.parts.links.left_out) (after_links i)) in
    let after_now = c.in_ok-put_number-9.ensures ∙ (λ i. put (codes "now") (whole_number c.args.shown.now) (after_links_left_out i)) in
    let after_restart_time = c.in_ok-put_number-10.ensures ∙ (λ i. put (codes "restart_time") (whole_number c.args.shown.restart_time) (after_now i)) in
    let after_rows = c.in_ok-put_number-11.ensures ∙ (λ i. put (codes "rows") (whole_number (c.rows_of.ensures i)) (after_restart_time i)) in
    let after_rows_limit = c.in_ok-put_number-12.ensures ∙ (λ i. put (codes "rows_limit") (whole_number MAX_ROWS) (after_rows i)) in
    let after_storages = c.in_ok-put_value-6.ensures ∙ (λ i. put (codes "storages") (view c.args.parts.storages) (after_rows_limit i)) in
    let after_vo_name = c.in_ok-put_text.ensures ∙ (λ i. put (codes "vo_name") (string ((c.vo_of.ensures ∙ ap vo_of c.settings.ensures) i)) (after_storages i)) in
    let after_whole = c.in_ok-put_value-7.ensures ∙ (λ i. put (codes "whole") (c.flag_value-whole.ensures i) (after_vo_name i)) in
    c.object_from.ensures ∙ ap object after_whole
