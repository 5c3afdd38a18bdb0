-- The members, one behind the other.
use Rattle.std.proofs.Common.{◌∙◌, ap, codes}
use Rattle.serde_json.specs.Data.{object, string, put}
use Rattle.serde_json.specs.View.{members_view}
use Rattle.fts_board.specs.Json.{whole_number}
use Rattle.fts_board.proofs.links.LinkShownAsJson.value.Goals as goal

pub returns : goal.returns
returns c =
    let after_active = c.in_ok-put_number.ensures ∙ (λ i. put (codes "active") (whole_number c.args.self.now.rows.active) (members_view (c.new-map.ensures.empty i))) in
    let after_canceled = c.in_ok-put_number-2.ensures ∙ (λ i. put (codes "canceled") (whole_number c.args.self.now.rows.canceled) (after_active i)) in
    let after_copied_bytes = c.in_ok-put_number-3.ensures ∙ (λ i. put (codes "copied_bytes") (whole_number c.args.self.now.reports.bytes) (after_canceled i)) in
    let after_destination = c.in_ok-put_text.ensures ∙ (λ i. put (codes "destination") (string c.args.self.now.dest.now) (after_copied_bytes i)) in
    let after_failed = c.in_ok-put_number-4.ensures ∙ (λ i. put (codes "failed") (whole_number c.args.self.now.rows.failed) (after_destination i)) in
    let after_finished = c.in_ok-put_number-5.ensures ∙ (λ i. put (codes "finished") (whole_number c.args.self.now.rows.finished) (after_failed i)) in
    let after_last_report_time = c.in_ok-put_number-6.ensures ∙ (λ i. put (codes "last_report_time") (whole_number c.args.self.now.reports.last) (after_finished i)) in
    let after_max_active = c.in_ok-put_number-7.ensures ∙ (λ i. put (codes "max_active") (whole_number c.args.self.now.max_active) (after_last_report_time i)) in
    let after_source = c.in_ok-put_text-2.ensures ∙ (λ i. put (codes "source") (string c.args.self.now.source.now) (after_max_active i)) in
    let after_submitted = c.in_ok-put_number-8.ensures ∙ (λ i. put (codes "submitted") (whole_number c.args.self.now.rows.submitted) (after_source i)) in
    let after_symbolicname = c.in_ok-put_text-3.ensures ∙ (λ i. put (codes "symbolicname") (string c.args.self.now.symbolic.now) (after_submitted i)) in
    c.object_from.ensures ∙ ap object after_symbolicname
