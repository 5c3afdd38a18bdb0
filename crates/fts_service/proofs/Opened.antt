-- Doors that stay as they are.
use Rattle.std.proofs.Common.{◌≡◌, ℕ, zero, suc, List, [], ◌∷◌, ◌++◌, length, take, drop, refl, sym, ap, ◌∙◌, subst, arith, append-nil}
use Rattle.std.proofs.lemmas.List.{take_all}
use Rattle.fts_service.specs.Openings.{AreOpened, SomeRose}
use Rattle.fts_service.specs.declared.lane.Lane.{Lane}
use Rattle.fts_service.specs.declared.doors.Doors as doors

-- lanes that stay are as opened ones
pub opened_none : {A C L : Type 0} (all_doors : doors.Ghosts A L) (count : ℕ) (lanes : List (Lane A C L)) → AreOpened all_doors count lanes lanes
opened_none all_doors zero lanes = refl
opened_none all_doors (suc more) [] = tt
opened_none all_doors (suc more) (lane ∷ lanes) = (record { untaken = refl; clock = refl; counts = omega arith }, opened_none all_doors more lanes)

-- there are as many as before
pub opened_length : {A C L : Type 0} (all_doors : doors.Ghosts A L) (count : ℕ) (olds news : List (Lane A C L)) → AreOpened all_doors count olds news
    → length news ≡ length olds
opened_length all_doors zero olds news opened = ap length opened
opened_length all_doors (suc more) [] [] opened = refl
opened_length all_doors (suc more) [] (new ∷ news) opened = absurd opened
opened_length all_doors (suc more) (old ∷ olds) [] opened = absurd opened
opened_length all_doors (suc more) (old ∷ olds) (new ∷ news) opened = ap suc (opened_length all_doors more olds news opened.1)

behind_all : {A : Type 0} (items : List A) → drop (length items) items ≡ []
behind_all [] = refl
behind_all (item ∷ items) = behind_all items

-- what a slice of a whole list is written back as
pub written_back : {A : Type 0} (n : ℕ) (olds news : List A) → length news ≡ length olds → n ≡ length olds → take n (news ++ drop (length news) olds) ≡ news
written_back n olds news e f = ap (λ k. take n (news ++ drop k olds)) e ∙ ap (λ l. take n (news ++ l)) (behind_all olds) ∙ ap (take n) (append-nil news)
    ∙ take_all n news (omega (arith, e, f))

-- lanes whose doors were opened, once they are written back
pub opened_back : {A C L : Type 0} (all_doors : doors.Ghosts A L) (count n : ℕ) (seen olds news : List (Lane A C L)) → AreOpened all_doors count seen news
    → seen ≡ olds → n ≡ length olds → AreOpened all_doors count olds (take n (news ++ drop (length news) olds))
opened_back all_doors count n seen olds news opened same all =
    subst (AreOpened all_doors count olds) (sym (written_back n olds news (opened_length all_doors count seen news opened ∙ ap length same) all))
    (subst (λ l. AreOpened all_doors count l news) same opened)

pub rose_back : {A C L : Type 0} (all_doors : doors.Ghosts A L) (count n : ℕ) (seen olds news : List (Lane A C L)) → AreOpened all_doors count seen news
    → SomeRose all_doors seen news → seen ≡ olds → n ≡ length olds → SomeRose all_doors olds (take n (news ++ drop (length news) olds))
rose_back all_doors count n seen olds news opened rose same all =
    subst (SomeRose all_doors olds) (sym (written_back n olds news (opened_length all_doors count seen news opened ∙ ap length same) all))
    (subst (λ l. SomeRose all_doors l news) same rose)
