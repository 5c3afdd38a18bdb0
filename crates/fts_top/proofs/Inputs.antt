-- The requests of an input and its end are one: whoever finds an end behind requests finds the same requests and the same end.
use Rattle.std.proofs.Common.{◌≡◌, ◌⊎◌, inl, inr, ℕ, suc, ◌+◌, ◌<◌, Bool, true, false, List, [], ◌∷◌, ◌++◌, length, refl, ap, sym, ◌∙◌, subst, arith, length-append}
use Rattle.std.proofs.lemmas.List.Elements.{All-head, All-tail}
use Rattle.fts_tables.specs.declared.limits.TheConstants.{MAX_REQUESTS}
use Rattle.fts_wire.specs.RequestData.{RequestData}
use Rattle.fts_wire.specs.Requests.{Next, Closed, EndsInside, Refuses, Asks, next_of, AreRequests}
use Rattle.fts_top.specs.Complete.{NoneCloses, EndsBetween, LastSaysClose, EndsWell}

-- what ends an input behind its requests: what comes next, which is no request, a request that says close, or their number
pub data InputEnd : Type 0 where
  Between : Next → InputEnd
  ByClose : InputEnd
  ByNumber : InputEnd

abbrev pub IsEnd : Next → Type 0
IsEnd Closed = Unit {0}
IsEnd EndsInside = Unit {0}
IsEnd (Refuses fault) = Unit {0}
IsEnd (Asks request behind) = ⊥

-- the input behind a request ends so, by whether the request says close
abbrev EndsBehind : Bool → List RequestData → InputEnd → Type 0 → Type 0
EndsBehind true more end later = (more ≡ []) × (end ≡ ByClose)
EndsBehind false more end later = later

-- bytes behind so many requests are these requests, and then end so
abbrev pub Holds : ℕ → List ℕ → List RequestData → InputEnd → Type 0
Holds n bytes [] (Between next) = (n < MAX_REQUESTS) × ((next_of bytes ≡ next) × IsEnd next)
Holds n bytes [] ByClose = ⊥
Holds n bytes [] ByNumber = n ≡ MAX_REQUESTS
Holds n bytes (request ∷ more) end = (n < MAX_REQUESTS) × ((behind : List ℕ) × ((next_of bytes ≡ Asks request behind) × EndsBehind request.close more end (Holds (suc n) behind more end)))

-- what comes next isn't a request and an end
no_end : (bytes : List ℕ) (next : Next) (request : RequestData) (behind : List ℕ) → next_of bytes ≡ next → IsEnd next → next_of bytes ≡ Asks request behind → ⊥
no_end bytes next request behind is end asks = subst IsEnd (sym is ∙ asks) end

-- the request that comes first, and what is behind it
abbrev asked_of : Next → RequestData → RequestData
asked_of (Asks request behind) other = request
asked_of _ other = other

abbrev behind_of : Next → List ℕ → List ℕ
behind_of (Asks request behind) other = behind
behind_of _ other = other

pub same_input : (n : ℕ) (bytes : List ℕ) (one other : List RequestData) (end end2 : InputEnd) → Holds n bytes one end → Holds n bytes other end2 → (one ≡ other) × (end ≡ end2)
same_input n bytes [] [] (Between next) (Between next2) h k = (refl, ap Between (sym h.1.0 ∙ k.1.0))
same_input n bytes [] [] (Between next) ByClose h k = absurd k
same_input n bytes [] [] (Between next) ByNumber h k = absurd (omega (arith, h.0, k))
same_input n bytes [] other ByClose end2 h k = absurd h
same_input n bytes [] [] ByNumber (Between next) h k = absurd (omega (arith, h, k.0))
same_input n bytes [] [] ByNumber ByClose h k = absurd k
same_input n bytes [] [] ByNumber ByNumber h k = (refl, refl)
same_input n bytes [] (request ∷ more) (Between next) end2 h k = absurd (no_end bytes next request k.1.0 h.1.0 h.1.1 k.1.1.0)
same_input n bytes [] (request ∷ more) ByNumber end2 h k = absurd (omega (arith, h, k.0))
same_input n bytes (request ∷ more) [] end (Between next) h k = absurd (no_end bytes next request h.1.0 k.1.0 k.1.1 h.1.1.0)
same_input n bytes (request ∷ more) [] end ByClose h k = absurd k
same_input n bytes (request ∷ more) [] end ByNumber h k = absurd (omega (arith, h.0, k))
same_input n bytes (request ∷ more) (request2 ∷ more2) end end2 h k =
    let asks = sym h.1.1.0 ∙ k.1.1.0 in
    both request2.close (λ later later2. same_input (suc n) k.1.0 more more2 end end2 later later2)
    (subst (λ (r : RequestData). EndsBehind r.close more end (Holds (suc n) h.1.0 more end)) (ap (λ next. asked_of next request) asks) h.1.1.1) k.1.1.1
    (ap (λ next. asked_of next request) asks) (ap (λ next. behind_of next h.1.0) asks)
  where
    both : (close : Bool) → (Holds (suc n) k.1.0 more end → Holds (suc n) k.1.0 more2 end2 → (more ≡ more2) × (end ≡ end2))
        → EndsBehind close more end (Holds (suc n) h.1.0 more end) → EndsBehind close more2 end2 (Holds (suc n) k.1.0 more2 end2)
        → request ≡ request2 → h.1.0 ≡ k.1.0 → (request ∷ more ≡ request2 ∷ more2) × (end ≡ end2)
    both true same e f first behind =
        let none : more ≡ [] = e.0 in
        let none2 : more2 ≡ [] = f.0 in
        (cc, e.1 ∙ sym f.1)
    both false same e f first behind =
        let later = same (subst (λ (b : List ℕ). Holds (suc n) b more end) behind e) f in
        let rest : more ≡ more2 = later.0 in
        (cc, later.1)

-- requests of which none says close, and then an end
pub holds_between : (n : ℕ) (bytes : List ℕ) (requests : List RequestData) (rest : List ℕ) (next : Next) → AreRequests bytes requests rest → NoneCloses requests
    → n + length requests < MAX_REQUESTS → next_of rest ≡ next → IsEnd next → Holds n bytes requests (Between next)
holds_between n bytes [] rest next are go_on few is end = (omega (arith, few), (ap next_of (sym are) ∙ is, end))
holds_between n bytes (request ∷ more) rest next are go_on few is end = (
  omega (arith, few),
  (
    are.0,
    (
      are.1.0,
      subst (λ (close : Bool). EndsBehind close more (Between next) (Holds (suc n) are.0 more (Between next)))
          (sym (All-head (λ (r : RequestData). r.close ≡ false) request more go_on))
          (holds_between (suc n) are.0 more rest next are.1.1 (All-tail (λ (r : RequestData). r.close ≡ false) request more go_on) (omega (arith, few)) is end),
    ),
  ),
)

-- as many as there may be
pub holds_all : (n : ℕ) (bytes : List ℕ) (requests : List RequestData) (rest : List ℕ) → AreRequests bytes requests rest → NoneCloses requests
    → n + length requests ≡ MAX_REQUESTS → Holds n bytes requests ByNumber
holds_all n bytes [] rest are go_on all = omega (arith, all)
holds_all n bytes (request ∷ more) rest are go_on all = (
  omega (arith, all),
  (
    are.0,
    (
      are.1.0,
      subst (λ (close : Bool). EndsBehind close more ByNumber (Holds (suc n) are.0 more ByNumber))
          (sym (All-head (λ (r : RequestData). r.close ≡ false) request more go_on))
          (holds_all (suc n) are.0 more rest are.1.1 (All-tail (λ (r : RequestData). r.close ≡ false) request more go_on) (omega (arith, all))),
    ),
  ),
)

-- requests of which the last says close
pub holds_close : (n : ℕ) (bytes : List ℕ) (others : List RequestData) (last : RequestData) (rest : List ℕ) → AreRequests bytes (others ++ last ∷ []) rest → NoneCloses others
    → last.close ≡ true → n + length others < MAX_REQUESTS → Holds n bytes (others ++ last ∷ []) ByClose
holds_close n bytes [] last rest are go_on closes few =
    (omega (arith, few), (are.0, (are.1.0, subst (λ (close : Bool). EndsBehind close [] ByClose (Holds (suc n) are.0 [] ByClose)) (sym closes) (refl, refl))))
holds_close n bytes (request ∷ more) last rest are go_on closes few = (
  omega (arith, few),
  (
    are.0,
    (
      are.1.0,
      subst (λ (close : Bool). EndsBehind close (more ++ last ∷ []) ByClose (Holds (suc n) are.0 (more ++ last ∷ []) ByClose))
          (sym (All-head (λ (r : RequestData). r.close ≡ false) request more go_on))
          (holds_close (suc n) are.0 more last rest are.1.1 (All-tail (λ (r : RequestData). r.close ≡ false) request more go_on) closes (omega (arith, few))),
    ),
  ),
)

-- a good end: CR and LF at most, or a request that says close
abbrev pub EndsSo : InputEnd → Type 0
EndsSo (Between Closed) = Unit {0}
EndsSo (Between EndsInside) = ⊥
EndsSo (Between (Refuses fault)) = ⊥
EndsSo (Between (Asks request behind)) = ⊥
EndsSo ByClose = Unit {0}
EndsSo ByNumber = ⊥

by_end : (bytes : List ℕ) (requests : List RequestData) (rest : List ℕ) → AreRequests bytes requests rest → EndsBetween requests rest ⊎ LastSaysClose requests
    → (end : InputEnd) × (Holds 0 bytes requests end × EndsSo end)
by_end bytes requests rest are (inl between) = (Between Closed, (holds_between 0 bytes requests rest Closed are between.go_on (omega (arith, between.few)) between.closed tt, tt))
by_end bytes requests rest are (inr by_close) =
    let held = holds_close 0 bytes by_close.others by_close.last rest (subst (λ (l : List RequestData). AreRequests bytes l rest) by_close.all are) by_close.go_on by_close.closes
    (omega (arith, by_close.few, ap length by_close.all, length-append by_close.others (by_close.last ∷ []))) in
    (ByClose, (subst (λ (l : List RequestData). Holds 0 bytes l ByClose) (sym by_close.all) held, tt))

pub held_well : (bytes : List ℕ) (requests : List RequestData) → EndsWell bytes requests → (end : InputEnd) × (Holds 0 bytes requests end × EndsSo end)
held_well bytes requests well = by_end bytes requests well.rest well.are well.end
