-- What the client heard in a run, and what it knows then.
use Rattle.std.proofs.Common.{◌≡◌, ℕ, Bool, true, false, cond, List, [], ◌∷◌, ◌++◌, slice_get, map, Option, Some, None, refl, ap, sym, ◌∙◌}
use Rattle.std.specs.Prelude.{not, ◌&&◌, option_to_list}
use Rattle.fts_laws.specs.Submissions.{is_restart, vo_of}
use Rattle.fts_client.specs.Worlds.{Heard, Protocol, World, Failure, Doubt, Event, Sends, IsAnswered, Fails, ComesInPart, Hears, HearsPart, Appends, Restarts, may_follow, has_vo, told_more, told_all, answered, failed, come_in_part, told, happens, world_after, reply_heard, replies_heard}

told_all-append : (known : Option ℕ) (heard more : List Heard) → told_all known (heard ++ more) ≡ told_all (told_all known heard) more
told_all-append known [] more = refl
told_all-append known (one ∷ heard) more = told_all-append (told_more known one) heard more

map_joined : {A B : Type 0} (f : A → B) (items more : List A) → map f (items ++ more) ≡ map f items ++ map f more
map_joined f [] more = refl
map_joined f (item ∷ items) more = ap (λ rest. f item ∷ rest) (map_joined f items more)

module _ {Request Response : Type 0} (protocol : Protocol Request Response) where
  by_came : (world : World Request Response) (writer now : ℕ) (came : Option Request) → (answered protocol world writer now came).client.done ≡ world.client.done
  by_came world writer now None = refl
  by_came world writer now (Some request) = refl

  by_failed : (world : World Request Response) (writer now : ℕ) (failure : Failure) (doubt : Doubt) (came : Option Request)
      → (failed protocol world writer now failure doubt came).client.done ≡ world.client.done
  by_failed world writer now failure doubt None = refl
  by_failed world writer now failure doubt (Some request) = refl

  by_part : (world : World Request Response) (failure : Failure) (came : Option Request) → (come_in_part protocol world failure came).client.done ≡ world.client.done
  by_part world failure None = refl
  by_part world failure (Some request) = refl

  by_reply : (world : World Request Response) (came : Option Response)
      → (told protocol world came).client.done ≡ told_all world.client.done (map protocol.heard (option_to_list came))
  by_reply world None = refl
  by_reply world (Some reply) = refl

  by_if : (known : Option ℕ) (answer : Bool) (one other : World Request Response) → one.client.done ≡ known → other.client.done ≡ known
      → (cond answer one other).client.done ≡ known
  by_if known true one other first second = first
  by_if known false one other first second = second

  by_event : (world : World Request Response) (event : Event)
      → (happens protocol world event).client.done ≡ told_all world.client.done (map protocol.heard (reply_heard protocol world event))
  by_event world Sends = refl
  by_event world (IsAnswered which writer now) = by_came world writer now (slice_get world.sent which)
  by_event world (Fails which writer now failure doubt) = by_failed world writer now failure doubt (slice_get world.sent which)
  by_event world (ComesInPart which failure) = by_part world failure (slice_get world.sent which)
  by_event world (Hears which) = by_reply world (slice_get world.made which)
  by_event world (HearsPart which) = refl
  by_event world (Appends entry) = by_if world.client.done (may_follow world.entries entry && not (is_restart entry.command)) _ world refl refl
  by_event world (Restarts is_kept writer now settings) = by_if world.client.done (has_vo (vo_of world.entries) settings) _ world refl refl

  pub knows : (events : List Event) (world : World Request Response)
      → (world_after protocol world events).client.done ≡ told_all world.client.done (map protocol.heard (replies_heard protocol world events))
  knows [] world = refl
  knows (event ∷ events) world =
      knows events (happens protocol world event)
      ∙ (ap (λ done. told_all done (map protocol.heard (replies_heard protocol (happens protocol world event) events))) (by_event world event)
      ∙ (sym (told_all-append world.client.done (map protocol.heard (reply_heard protocol world event)) (map protocol.heard (replies_heard protocol (happens protocol world event) events)))
      ∙ ap (told_all world.client.done) (sym (map_joined protocol.heard (reply_heard protocol world event) (replies_heard protocol (happens protocol world event) events)))))
