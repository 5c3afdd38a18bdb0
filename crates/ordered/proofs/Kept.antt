-- What a set keeps where a key has gone.
use Rattle.std.proofs.Common.{◌≡◌, ℕ, ◌+◌, ◌-◌, Bool, true, List, length, ap, sym, subst, arith}
use Rattle.ordered.specs.Orders.{IsStrictOrder, AreSortedBy, without, has_key, differs}
use Rattle.ordered.specs.Chunks.{joined, AreFit}
use Rattle.ordered.specs.Set.{IsSet}
use Rattle.ordered.proofs.Lists.{filter_sorted, length-without}

pub kept_without : {K : Type 0} (before : K → K → Bool) (order : IsStrictOrder before) (key : K) (old new : List (List K))
    (memory new_memory spare new_spare spare_memory new_spare_memory len room : ℕ)
    → IsSet before old memory spare spare_memory len room → has_key before key (joined old) ≡ true → joined new ≡ without before key (joined old)
    → AreFit new → length new + new_spare ≡ length old + spare → new_memory ≡ memory → new_spare_memory ≡ spare_memory
    → IsSet before new new_memory new_spare new_spare_memory (len - 1) room
kept_without before order key old new memory new_memory spare new_spare spare_memory new_spare_memory len room kept there keys fit whole same spare_same =
    let fewer = length-without before order key (joined old) kept.order there in
    record {
      order = subst (λ keys. AreSortedBy before keys) (sym keys)
          (filter_sorted before (λ other. differs before other key) (joined old) kept.order);
      fit = fit;
      count = omega (arith, kept.count, ap length keys, fewer);
      inside = omega (arith, kept.inside);
      enough = omega (arith, kept.enough, whole);
      listed = omega (arith, kept.listed, whole, same);
      kept = omega (arith, kept.kept, whole, spare_same);
    }
