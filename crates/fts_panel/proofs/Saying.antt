-- What is said by a reply, or by that for want of memory in its place.
use Rattle.std.proofs.Common.{◌≡◌, inl, inr, refl, ap, sym, ◌∙◌, subst, ℕ, Bool, true, false, List, [], ◌++◌, ◌+◌, length, Option, Some, None, Result, append-nil, length-append}
use Rattle.std.specs.Prelude.{IsTrue}
use Rattle.fts_tables.specs.Counts.{CountsFaults}
use Rattle.fts_wire.specs.Faults.{status_of}
use Rattle.fts_wire.specs.Response.{response_of, has_phrase, has_methods, Sends}
use Rattle.fts_wire.specs.declared.fault.WireFault.{WireFault}
use Rattle.fts_wire.specs.declared.fault.WireFault.TheVariants.{BadHead, HeadTooLarge, BadLength, Chunked, BodyTooLarge, ForeignOrigin, EndsInside, SourceFailed}
use Rattle.fts_wire.specs.declared.outside.SinkFailed.{SinkFailed}
use Rattle.fts_wire.specs.declared.response.Allow.TheVariants.{None as NoMethods}
use Rattle.fts_wire.specs.declared.response.Reply.{Reply}
use Rattle.fts_watch.specs.declared.fault.MonitorFault.{MonitorFault}
use Rattle.fts_watch.specs.declared.fault.MonitorFault.TheVariants.{DiskFailed, Damaged, Changed, Memory}
use Rattle.fts_watch.specs.Monitor.{MonitorData}
use Rattle.fts_panel.specs.declared.asked.Topic.{Topic}
use Rattle.fts_panel.specs.declared.asked.Topic.TheVariants.{Snapshot, History, Jobs, Job}
use Rattle.fts_panel.specs.declared.view.View.{View}
use Rattle.fts_panel.specs.declared.view.View.TheVariants.{Shown, Unread, Shut}
use Rattle.fts_panel.specs.Responses.{Says, IsOrNoMemory, no_memory, no_job, bad_query, refusal_of, refusal_response, reply_to, reply_by, reply_on, reply_of_view, text_head, text_response}

-- a response can be written of a reply
pub record CanBeSent (reply : Reply) : Type 0 where
  pub phrase : IsTrue (has_phrase reply.status)
  pub methods : IsTrue (has_methods reply.status reply.allow)

-- of one that is wanted, or of want of memory in its place
pub can_be_sent : (reply wanted : Reply) → CanBeSent wanted → IsOrNoMemory reply wanted → CanBeSent reply
can_be_sent reply wanted can (inl e) = subst CanBeSent (sym e) can
can_be_sent reply wanted can (inr e) = subst CanBeSent (sym e) (record { phrase = refl; methods = refl })

-- of why nothing is shown
pub fault_can_be_sent : (fault : MonitorFault) → CanBeSent (reply_to fault)
fault_can_be_sent DiskFailed = record { phrase = refl; methods = refl }
fault_can_be_sent (Damaged offset) = record { phrase = refl; methods = refl }
fault_can_be_sent Changed = record { phrase = refl; methods = refl }
fault_can_be_sent Memory = record { phrase = refl; methods = refl }

-- of a text, or of another reply in its place
by_can_be_sent : (other : Reply) (text : Option (List ℕ)) → CanBeSent other → CanBeSent (reply_by other text)
by_can_be_sent other None can = can
by_can_be_sent other (Some text) can = record { phrase = refl; methods = refl }

-- of what is replied on a topic
topic_can_be_sent : {D : Type 0} (topic : Topic) (path : List ℕ) (query : Option (List ℕ)) (now : ℕ) (monitor : MonitorData D) (began : ℕ) (damage : Option ℕ)
    → CanBeSent (reply_on topic path query now monitor began damage)
topic_can_be_sent Snapshot path query now monitor began damage = record { phrase = refl; methods = refl }
topic_can_be_sent History path query now monitor began damage = by_can_be_sent bad_query _ (record { phrase = refl; methods = refl })
topic_can_be_sent Jobs path query now monitor began damage = by_can_be_sent bad_query _ (record { phrase = refl; methods = refl })
topic_can_be_sent Job path query now monitor began damage = by_can_be_sent no_job _ (record { phrase = refl; methods = refl })

-- and of what is replied by a view
pub view_can_be_sent : {D : Type 0} (topic : Topic) (path : List ℕ) (query : Option (List ℕ)) (now : ℕ) (view : View D)
    → CanBeSent (reply_of_view topic path query now view)
view_can_be_sent topic path query now (Shown monitor began damage) = topic_can_be_sent topic path query now monitor began damage
view_can_be_sent topic path query now (Unread monitor began fault) = fault_can_be_sent fault
view_can_be_sent topic path query now (Shut disk fault) = fault_can_be_sent fault

-- of the refusal of a fault of the framing
pub bytes_can_be_sent : (fault : WireFault) (message : List ℕ) (rule status : ℕ) → status_of fault ≡ Some status → CanBeSent (refusal_of message rule status NoMethods)
bytes_can_be_sent BadHead message rule status e = let n : 400 ≡ status = cc in subst (λ (s : ℕ). CanBeSent (refusal_of message rule s NoMethods)) n (record { phrase = refl; methods = refl })
bytes_can_be_sent HeadTooLarge message rule status e = let n : 431 ≡ status = cc in subst (λ (s : ℕ). CanBeSent (refusal_of message rule s NoMethods)) n (record { phrase = refl; methods = refl })
bytes_can_be_sent BadLength message rule status e = let n : 400 ≡ status = cc in subst (λ (s : ℕ). CanBeSent (refusal_of message rule s NoMethods)) n (record { phrase = refl; methods = refl })
bytes_can_be_sent Chunked message rule status e = let n : 501 ≡ status = cc in subst (λ (s : ℕ). CanBeSent (refusal_of message rule s NoMethods)) n (record { phrase = refl; methods = refl })
bytes_can_be_sent BodyTooLarge message rule status e = let n : 413 ≡ status = cc in subst (λ (s : ℕ). CanBeSent (refusal_of message rule s NoMethods)) n (record { phrase = refl; methods = refl })
bytes_can_be_sent ForeignOrigin message rule status e = let n : 403 ≡ status = cc in subst (λ (s : ℕ). CanBeSent (refusal_of message rule s NoMethods)) n (record { phrase = refl; methods = refl })
bytes_can_be_sent EndsInside message rule status e = absurd cc
bytes_can_be_sent SourceFailed message rule status e = absurd cc

-- want of memory has no body
no_memory_either : (head_only : Bool) → refusal_response no_memory head_only ≡ refusal_response no_memory false
no_memory_either true = refl
no_memory_either false = refl

module _ (held now : Option (List ℕ)) (old new : ℕ) (head_only : Bool) (result : Result (Unit {0}) SinkFailed) where
  -- a reply was written
  pub says_reply : (reply wanted : Reply) → IsOrNoMemory reply wanted → Sends held now (response_of reply head_only true) result → CountsFaults old new result
      → Says held now old new (refusal_response wanted head_only)
  says_reply reply wanted (inl e) sent counts = record {
    response = response_of reply head_only true;
    is = inl (ap (λ (r : Reply). response_of r head_only true) e);
    result = result;
    sent = sent;
    counts = counts;
  }
  says_reply reply wanted (inr e) sent counts = record {
    response = response_of reply head_only true;
    is = inr (ap (λ (r : Reply). response_of r head_only true) e ∙ no_memory_either head_only);
    result = result;
    sent = sent;
    counts = counts;
  }

-- a head, and a text in two parts behind it
pub in_parts : (head text behind : List ℕ) → head ≡ text_head (length text + length behind) → head ++ (text ++ (behind ++ [])) ≡ text_response (text ++ behind)
in_parts head text behind is =
    ap (λ xs. head ++ (text ++ xs)) (append-nil behind)
    ∙ ap (λ xs. xs ++ (text ++ behind)) (is ∙ ap text_head (sym (length-append text behind)))
