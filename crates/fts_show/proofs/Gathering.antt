-- Gathering one text after another.
use Rattle.std.proofs.Common.{◌≡◌, ℕ, List, [], ◌++◌, Option, Some, None, Result, Ok, Err, refl, ap, sym, ◌∙◌, subst, append_assoc, append-nil}
use Rattle.fts_wire.specs.Response.{Sends}
use Rattle.fts_wire.specs.declared.outside.SinkFailed.{SinkFailed}
use Rattle.fts_wire.proofs.Sent.{sends_then, sends_no_more}
use Rattle.fts_show.specs.Gathered.{IsGathered, Gathers}

-- nothing was sent
sends_none : (held : Option (List ℕ)) → Sends {E = SinkFailed} held held [] (Ok tt)
sends_none None = refl
sends_none (Some held) = sym (append-nil held)

-- a text waits behind what waited
pub waits : (held : Option (List ℕ)) (before after text : List ℕ) → after ≡ before ++ text → IsGathered held held before after text
waits held before after text is = record { sent = []; parts = sym is; written = sends_none held }

-- no text was gathered
pub waits_still : (held : Option (List ℕ)) (before : List ℕ) → IsGathered held held before before []
waits_still held before = waits held before before [] (sym (append-nil before))

-- what waited was sent, and a text waits in its place
pub waits_alone : (held now : Option (List ℕ)) (before between after text : List ℕ) → Sends {E = SinkFailed} held now before (Ok tt)
    → between ≡ [] → after ≡ between ++ text → IsGathered held now before after text
waits_alone held now before between after text sent empty is = record {
  sent = before;
  parts = ap (λ (behind : List ℕ). before ++ behind) (sym (is ∙ ap (λ (front : List ℕ). front ++ text) empty));
  written = sent;
}

-- what waited was sent, and a text behind it, as far as may be
pub sent_behind : (held mid now : Option (List ℕ)) (before after text : List ℕ) (result : Result (Unit {0}) SinkFailed)
    → Sends {E = SinkFailed} held mid before (Ok tt) → after ≡ [] → Sends mid now text result → Gathers held now before after text result
sent_behind held mid now before after text (Ok done) first empty second = record {
  sent = before ++ text;
  parts = sym (ap (λ (behind : List ℕ). (before ++ text) ++ behind) empty ∙ append-nil (before ++ text));
  written = sends_then held mid now before text (Ok tt) first second;
}
sent_behind held mid now before after text (Err fault) first empty second = sends_then held mid now before text (Err fault) first second

module _ (old mid new : Option (List ℕ)) (before between after first second : List ℕ) (so_far : IsGathered old mid before between first) where
  -- a second text was gathered behind a first
  pub gathered_then : IsGathered mid new between after second → IsGathered old new before after (first ++ second)
  gathered_then next = record {
    sent = so_far.sent ++ next.sent;
    parts = sym (append_assoc before first second) ∙ ap (λ (text : List ℕ). text ++ second) so_far.parts ∙ append_assoc so_far.sent between second
        ∙ ap (λ (text : List ℕ). so_far.sent ++ text) next.parts ∙ sym (append_assoc so_far.sent next.sent after);
    written = sends_then old mid new so_far.sent next.sent (Ok tt) so_far.written next.written;
  }

  -- a second text was cut short behind a first
  pub gathered_cut : (fault : SinkFailed) → Sends mid new (between ++ second) (Err fault) → Sends old new (before ++ (first ++ second)) (Err fault)
  gathered_cut fault cut = subst (λ (text : List ℕ). Sends old new text (Err fault))
      (sym (append_assoc so_far.sent between second) ∙ ap (λ (text : List ℕ). text ++ second) (sym so_far.parts) ∙ append_assoc before first second)
      (sends_then old mid new so_far.sent (between ++ second) (Err fault) so_far.written cut)

-- a second text was gathered behind a first, as far as may be
pub gathers_then : (old mid new : Option (List ℕ)) (before between after first second : List ℕ) (result : Result (Unit {0}) SinkFailed)
    → IsGathered old mid before between first → Gathers mid new between after second result → Gathers old new before after (first ++ second) result
gathers_then old mid new before between after first second (Ok done) so_far next = gathered_then old mid new before between after first second so_far next
gathers_then old mid new before between after first second (Err fault) so_far next = gathered_cut old mid new before between after first second so_far fault next

-- a first text that was cut short leaves out the second
pub gathers_no_more : (old new : Option (List ℕ)) (before first second : List ℕ) (fault : SinkFailed)
    → Sends old new (before ++ first) (Err fault) → Sends old new (before ++ (first ++ second)) (Err fault)
gathers_no_more old new before first second fault cut = subst (λ (text : List ℕ). Sends old new text (Err fault)) (append_assoc before first second)
    (sends_no_more old new (before ++ first) second fault cut)

-- behind nothing a text was gathered, and what waited at the end was sent as far as may be
pub gathered_whole : (old mid new : Option (List ℕ)) (before after text : List ℕ) (result : Result (Unit {0}) SinkFailed)
    → before ≡ [] → IsGathered old mid before after text → Sends mid new after result → Sends old new text result
gathered_whole old mid new before after text result empty so_far rest = subst (λ (t : List ℕ). Sends old new t result)
    (sym so_far.parts ∙ ap (λ (front : List ℕ). front ++ text) empty)
    (sends_then old mid new so_far.sent after result so_far.written rest)

-- behind nothing a text was cut short
pub cut_whole : (old new : Option (List ℕ)) (before text : List ℕ) (fault : SinkFailed)
    → before ≡ [] → Sends old new (before ++ text) (Err fault) → Sends old new text (Err fault)
cut_whole old new before text fault empty cut = subst (λ (front : List ℕ). Sends old new (front ++ text) (Err fault)) empty cut
