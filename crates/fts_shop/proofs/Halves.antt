-- What is done to each of two halves is done to each of the whole.
use Rattle.std.proofs.Common.{◌≡◌, subst, sym, List, [], ◌∷◌, ◌++◌}
use Rattle.fts_shop.specs.Many.{Each}

each_both : {A : Type 0} (R : A → A → Type 0) → (olds news others more : List A) → Each R olds news → Each R others more
    → Each R (olds ++ others) (news ++ more)
each_both R [] [] others more one two = two
each_both R [] (new ∷ news) others more one two = absurd one
each_both R (old ∷ olds) [] others more one two = absurd one
each_both R (old ∷ olds) (new ∷ news) others more one two = (one.0, each_both R olds news others more one.1 two)

pub each_halves : {A : Type 0} (R : A → A → Type 0) → (all now olds news others more : List A) → all ≡ olds ++ others → now ≡ news ++ more
    → Each R olds news → Each R others more → Each R all now
each_halves R all now olds news others more is is_now one two =
    subst (λ l. Each R l now) (sym is) (subst (λ l. Each R (olds ++ others) l) (sym is_now) (each_both R olds news others more one two))
