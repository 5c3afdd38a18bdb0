-- The refusal of a fault of the framing is one that a response can be written of.
use Rattle.std.proofs.Common.{◌≡◌, inl, inr, refl, ℕ, List, Some, sym, subst}
use Rattle.std.specs.Prelude.{IsTrue}
use Rattle.fts_wire.specs.Response.{has_phrase, has_methods}
use Rattle.fts_wire.specs.Faults.{status_of}
use Rattle.fts_wire.specs.declared.fault.WireFault.{WireFault}
use Rattle.fts_wire.specs.declared.fault.WireFault.TheVariants.{BadHead, HeadTooLarge, BadLength, Chunked, BodyTooLarge, ForeignOrigin, EndsInside, SourceFailed}
use Rattle.fts_wire.specs.declared.response.Reply.{Reply}
use Rattle.fts_routes.specs.Refusals.{no_memory, refusal_of, IsOrNoMemory}

-- a response can be written of a reply
pub record CanBeSent (reply : Reply) : Type 0 where
  pub phrase : IsTrue (has_phrase reply.status)
  pub methods : IsTrue (has_methods reply.status reply.allow)

-- of want of memory
sent_no_memory : CanBeSent no_memory
sent_no_memory = record { phrase = refl; methods = refl }

-- of the refusal of a fault
sent_fault : (fault : WireFault) (message : List ℕ) (rule status : ℕ) → status_of fault ≡ Some status → CanBeSent (refusal_of message rule status)
sent_fault BadHead message rule status e = let n : 400 ≡ status = cc in subst (λ (s : ℕ). CanBeSent (refusal_of message rule s)) n (record { phrase = refl; methods = refl })
sent_fault HeadTooLarge message rule status e = let n : 431 ≡ status = cc in subst (λ (s : ℕ). CanBeSent (refusal_of message rule s)) n (record { phrase = refl; methods = refl })
sent_fault BadLength message rule status e = let n : 400 ≡ status = cc in subst (λ (s : ℕ). CanBeSent (refusal_of message rule s)) n (record { phrase = refl; methods = refl })
sent_fault Chunked message rule status e = let n : 501 ≡ status = cc in subst (λ (s : ℕ). CanBeSent (refusal_of message rule s)) n (record { phrase = refl; methods = refl })
sent_fault BodyTooLarge message rule status e = let n : 413 ≡ status = cc in subst (λ (s : ℕ). CanBeSent (refusal_of message rule s)) n (record { phrase = refl; methods = refl })
sent_fault ForeignOrigin message rule status e = let n : 403 ≡ status = cc in subst (λ (s : ℕ). CanBeSent (refusal_of message rule s)) n (record { phrase = refl; methods = refl })
sent_fault EndsInside message rule status e = absurd cc
sent_fault SourceFailed message rule status e = absurd cc

pub sent_of_refusal : (fault : WireFault) (message : List ℕ) (rule status : ℕ) (reply : Reply) → status_of fault ≡ Some status
    → IsOrNoMemory reply (refusal_of message rule status) → CanBeSent reply
sent_of_refusal fault message rule status reply e (inl h) = subst CanBeSent (sym h) (sent_fault fault message rule status e)
sent_of_refusal fault message rule status reply e (inr h) = subst CanBeSent (sym h) sent_no_memory
