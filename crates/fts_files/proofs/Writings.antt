-- Bytes that are gone over, call by call.
use Rattle.std.proofs.Common.{◌≡◌, ℕ, zero, suc, ◌+◌, ◌<◌, ◌≤◌, Bool, true, false, Option, Some, None, Result, Ok, Err, IfOk, List, [], ◌∷◌, length, drop, refl, sym, ◌∙◌, ap, subst, arith}
use Rattle.std.specs.Prelude.{if◌then◌else◌, nat_eq, take}
use Rattle.std.specs.List.{starts_with}
use Rattle.std.proofs.lemmas.List.{drop-drop, length-drop, length-take-le}
use Rattle.fts_files.specs.declared.errno.Refused.{Refused}
use Rattle.fts_files.specs.declared.errno.Failed.{Failed}
use Rattle.fts_files.specs.Calls.{Call, Asked, Answer, Gave, with_call, counted_of, read_of}
use Rattle.fts_files.specs.Errno.{is_interrupted}
use Rattle.fts_files.specs.Script.{Script, Does, LeadsTo, fails, either, value_of, with_value}
use Rattle.fts_files.specs.Writing.{goes_over, taken, matched, at_least_one}
use Rattle.fts_files.proofs.Playing.{leads_same, same_leads, then_leads, does_leads}

-- a call by whose answer a step gives a value or fails
pub value_leads : {T E : Type 0} (asked : Asked) (decide : Answer → Option T) (next : T → Script) (old new : Option (List Call)) (answer : Answer) (result : Result T E)
    → new ≡ with_call old asked answer → value_of result ≡ decide answer
    → LeadsTo (Does asked (λ a. with_value next fails (decide a))) old (either next fails result) new
value_leads asked decide next old new answer (Ok value) is gave =
    subst (λ v. LeadsTo (Does asked (λ a. with_value next fails (decide a))) old (with_value next fails v) new) (sym gave)
    (does_leads asked (λ a. with_value next fails (decide a)) old new answer is)
value_leads asked decide next old new answer (Err error) is gave =
    subst (λ v. LeadsTo (Does asked (λ a. with_value next fails (decide a))) old (with_value next fails v) new) (sym gave)
    (does_leads asked (λ a. with_value next fails (decide a)) old new answer is)

-- what a write took is no more than was to be written
pub taken_within : {E : Type 0} (result : Result ℕ Refused) (gave : Result ℕ E) (most : ℕ) → value_of gave ≡ taken (counted_of result) → IfOk result (λ n. n ≤ most) → IfOk gave (λ n. n ≤ most)
taken_within result (Err error) most is within = tt
taken_within (Ok zero) (Ok count) most is within = cc
taken_within (Ok (suc n)) (Ok count) most is within = let same : count ≡ suc n = cc in omega (arith, within)
taken_within (Err refused) (Ok count) most is within = by_test (is_interrupted refused.errno) is
  where
    by_test : (b : Bool) → Some count ≡ (if b then Some 0 else None) → count ≤ most
    by_test true is = let none : count ≡ 0 = cc in omega arith
    by_test false is = cc

module _ (asks : ℕ → List ℕ → Asked) (dealt : List ℕ → Answer → Option ℕ) (next : Script) where
  none_over : (times offset : ℕ) (bytes : List ℕ) → length bytes ≡ 0 → goes_over asks dealt next times offset bytes ≡ next
  unfolding goes_over
  none_over zero offset [] is = refl
  none_over (suc times) offset [] is = refl
  none_over times offset (byte ∷ bytes) is = absurd (omega arith)

  never_over : (times offset : ℕ) (bytes : List ℕ) → times ≡ 0 → 0 < length bytes → goes_over asks dealt next times offset bytes ≡ fails
  unfolding goes_over
  never_over zero offset [] never is = absurd (omega arith)
  never_over zero offset (byte ∷ bytes) never is = refl
  never_over (suc times) offset bytes never is = absurd (omega arith)

  -- all were dealt with
  pub over_end : (times offset : ℕ) (bytes : List ℕ) (done : ℕ) (log : Option (List Call)) → length bytes ≤ done → LeadsTo (goes_over asks dealt next times offset (drop done bytes)) log next log
  over_end times offset bytes done log past = same_leads _ next log (none_over times offset (drop done bytes) (omega (arith, length-drop done bytes)))

  -- some are left, and no call
  pub over_never : (times offset : ℕ) (bytes : List ℕ) (done : ℕ) (log : Option (List Call)) → times ≡ 0 → done < length bytes → LeadsTo (goes_over asks dealt next times offset (drop done bytes)) log fails log
  over_never times offset bytes done log never more = same_leads _ fails log (never_over times offset (drop done bytes) never (omega (arith, length-drop done bytes)))

  -- the next call
  next_call : (times rest offset : ℕ) (bytes : List ℕ) (log : Option (List Call)) → times ≡ suc rest → 0 < length bytes
      → LeadsTo (goes_over asks dealt next times offset bytes) log
      (Does (asks offset bytes) (λ answer. with_value (λ count. goes_over asks dealt next rest (offset + count) (drop count bytes)) fails (dealt bytes answer))) log
  unfolding goes_over
  next_call times rest offset [] log more some = absurd (omega arith)
  next_call zero rest offset (byte ∷ bytes) log more some = absurd (omega arith)
  next_call (suc times) rest offset (byte ∷ bytes) log more some =
      let same : times ≡ rest = omega arith in
      subst (λ n. LeadsTo (goes_over asks dealt next (suc times) offset (byte ∷ bytes)) log
      (Does (asks offset (byte ∷ bytes)) (λ answer. with_value (λ count. goes_over asks dealt next n (offset + count) (drop count (byte ∷ bytes))) fails (dealt (byte ∷ bytes) answer))) log) same
      (leads_same _ log)

  -- a call, by what its step gives
  pub over_step : (times rest offset : ℕ) (bytes : List ℕ) (done : ℕ) (old new : Option (List Call)) (result : Result ℕ Failed) → times ≡ suc rest → done < length bytes
      → ((follow : ℕ → Script) → LeadsTo (Does (asks (offset + done) (drop done bytes)) (λ answer. with_value follow fails (dealt (drop done bytes) answer))) old (either follow fails result) new)
      → LeadsTo (goes_over asks dealt next times (offset + done) (drop done bytes)) old
      (either (λ count. goes_over asks dealt next rest (offset + (done + count)) (drop (done + count) bytes)) fails result) new
  over_step times rest offset bytes done old new (Ok count) more there step =
      let to : offset + done + count ≡ offset + (done + count) = omega arith in
      let left : drop count (drop done bytes) ≡ drop (done + count) bytes = drop-drop count done bytes in
      subst (λ s. LeadsTo (goes_over asks dealt next times (offset + done) (drop done bytes)) old s new)
      (ap (λ n. goes_over asks dealt next rest n (drop count (drop done bytes))) to ∙ ap (λ l. goes_over asks dealt next rest (offset + (done + count)) l) left)
      (then_leads (next_call times rest (offset + done) (drop done bytes) old more (omega (arith, length-drop done bytes)))
      (step (λ n. goes_over asks dealt next rest (offset + done + n) (drop n (drop done bytes)))))
  over_step times rest offset bytes done old new (Err error) more there step =
      then_leads (next_call times rest (offset + done) (drop done bytes) old more (omega (arith, length-drop done bytes)))
      (step (λ n. goes_over asks dealt next rest (offset + done + n) (drop n (drop done bytes))))

-- what a read gave of these bytes is no more than they are
matched_some : (bytes got : List ℕ) (n : ℕ) → Some n ≡ matched bytes (Gave got) → n ≡ length got
matched_some bytes got n is = by_test (starts_with nat_eq bytes got) (length got) is
  where
    by_test : (b : Bool) (m : ℕ) → Some n ≡ (if b then at_least_one m else None) → n ≡ m
    by_test true zero is = cc
    by_test true (suc m) is = cc
    by_test false m is = cc

pub matched_within : {E : Type 0} (bytes found : List ℕ) (result : Result ℕ Refused) (gave : Result ℕ E) → value_of gave ≡ matched bytes (read_of result found) → IfOk result (λ n. n ≤ length found)
    → length found ≤ length bytes → IfOk gave (λ n. n ≤ length bytes)
matched_within bytes found result (Err error) is within fits = tt
matched_within bytes found (Ok n) (Ok count) is within fits =
    let long : length (take n found) ≡ n = length-take-le n found within in
    let same : count ≡ length (take n found) = matched_some bytes (take n found) count is in
    omega (arith, within)
matched_within bytes found (Err refused) (Ok count) is within fits = by_test (is_interrupted refused.errno) is
  where
    by_test : (b : Bool) → Some count ≡ (if b then Some 0 else None) → count ≤ length bytes
    by_test true is = let none : count ≡ 0 = cc in omega arith
    by_test false is = cc
