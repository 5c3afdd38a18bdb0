-- What reading to the end took, a piece at a time.
use Rattle.std.proofs.Common.{◌≡◌, ℕ, ◌+◌, ◌-◌, min, ◌<◌, ◌≤◌, List, [], ◌∷◌, ◌++◌, length, take, drop, Option, Some, None, Ok, Err, refl, ap, sym, ◌∙◌, arith, subst, append-nil, ⊎_elim, inl, inr, length-append, length-drop}
use Rattle.std.proofs.lemmas.List.{length-take, nil_from_length}
use Rattle.std.proofs.Math.Seq.{drop-append-add}
use Rattle.fts_tables.specs.Counts.{Rose, CountsFaults}
use Rattle.fts_wire.specs.Outside.{Reads, IsTakenOf, raised}
use Rattle.fts_wire.proofs.Pieces.{taken_then, gives_piece}
use Rattle.fts_wire.specs.ReadAll.{IsAll, IsRefused}
use Rattle.fts_wire.specs.declared.whole_input.ReadAllFault.TheVariants.{TooLong, SourceFailed, Memory}

-- a read takes a piece more
pub piece_taken : (E : Type 0) (before mid after : Option (List ℕ)) (bytes into : List ℕ) (n : ℕ)
    → IsTakenOf before mid bytes → Reads {E = E} mid after into (Ok n) → IsTakenOf before after (bytes ++ take n into)
piece_taken E before mid after bytes into n taken read =
    taken_then before mid after bytes (take n into) taken (gives_piece E mid after into n read)

-- a read of nothing is the end
pub all_taken : (E : Type 0) (limit : ℕ) (before mid after : Option (List ℕ)) (bytes into : List ℕ) (n : ℕ) → n ≡ 0 → 0 < length into → length bytes ≤ limit
    → IsTakenOf before mid bytes → Reads {E = E} mid after into (Ok n) → IsAll limit before after bytes
all_taken E limit None mid after bytes into n zero some few taken read = (subst (λ m. Reads {E = E} m after into (Ok n)) taken read, few)
all_taken E limit (Some left) None after bytes into n zero some few taken read = absurd taken
all_taken E limit (Some left) (Some rest) None bytes into n zero some few taken read = absurd read
all_taken E limit (Some left) (Some []) (Some behind) bytes into n zero some few taken read =
    (sym (taken ∙ append-nil bytes), (nil_from_length behind (omega (arith, ap length read.rest, length-drop {A = ℕ} n [])), few))
all_taken E limit (Some left) (Some (byte ∷ rest)) (Some behind) bytes into n zero some few taken read = absurd (omega (arith, read.some (omega arith) some))

-- a read of more than there is room for shows that there are too many
pub too_many : (E : Type 0) (limit : ℕ) (before mid after : Option (List ℕ)) (bytes into : List ℕ) (n : ℕ) → length bytes + n ≡ limit + 1
    → IsTakenOf before mid bytes → Reads {E = E} mid after into (Ok n) → IsRefused limit before after TooLong
too_many E limit None mid after bytes into n over taken read = subst (λ m. Reads {E = E} m after into (Ok n)) taken read
too_many E limit (Some left) None after bytes into n over taken read = absurd taken
too_many E limit (Some left) (Some rest) None bytes into n over taken read = absurd read
too_many E limit (Some left) (Some rest) (Some behind) bytes into n over taken read =
    let long : length left ≡ length bytes + length rest = ap length taken ∙ length-append bytes rest in
    let same : drop (limit + 1) left ≡ drop n rest = ap (λ many. drop many left) (sym over) ∙ ap (drop (length bytes + n)) taken ∙ drop-append-add bytes rest n in
    (omega (arith, long, read.within), read.rest ∙ sym same)

-- a read that failed took nothing more
pub part_taken : (E : Type 0) (e : E) (limit : ℕ) (before mid after : Option (List ℕ)) (bytes into : List ℕ) → length bytes ≤ limit
    → IsTakenOf before mid bytes → Reads {E = E} mid after into (Err e) → IsRefused limit before after SourceFailed
part_taken E e limit None mid after bytes into few taken read = subst (λ m. Reads {E = E} m after into (Err e)) taken read
part_taken E e limit (Some left) None after bytes into few taken read = absurd taken
part_taken E e limit (Some left) (Some rest) None bytes into few taken read = absurd read
part_taken E e limit (Some left) (Some rest) (Some behind) bytes into few taken read =
    record { taken = bytes; parts = taken ∙ ap (λ back. bytes ++ back) (sym read); few = few }

-- bytes that were taken and not kept are lost, where memory ran out
pub lost : (limit : ℕ) (before after : Option (List ℕ)) (bytes : List ℕ) → length bytes ≤ limit → IsTakenOf before after bytes → IsRefused limit before after Memory
lost limit None after bytes few taken = taken
lost limit (Some left) None bytes few taken = absurd taken
lost limit (Some left) (Some rest) bytes few taken = record { taken = bytes; parts = taken; few = few }

-- a failure of the last read is one since the first
pub rose_since : (E : Type 0) (e : E) (first before after : ℕ) → first ≤ before → CountsFaults {T = ℕ} before after (Err e) → Rose first after
rose_since E e first before after kept counts =
    ⊎_elim (λ more. inl (omega (arith, more))) (λ most. inr most) (counts.cause refl)

-- a piece that is cut to one byte more than there is room for has a byte, and no more than that
pub cut_piece : (limit held most : ℕ) (old new : List ℕ) → most ≡ min (limit - held + 1) 18446744073709551615 → new ≡ take most old → 0 < length old
    → (0 < length new) × (length new ≤ limit - held + 1)
cut_piece limit held most old new room cut some =
    let long : length new ≡ min most (length old) = ap length cut ∙ length-take most old in
    (omega (arith, long, room, some), omega (arith, long, room))

-- a piece more, for which there is room
pub few_more : (limit held n : ℕ) (bytes into : List ℕ) → held ≡ length bytes → length bytes ≤ limit → n ≤ limit - held → length (bytes ++ take n into) ≤ limit
few_more limit held n bytes into long few room = omega (arith, length-append bytes (take n into), length-take n into)

-- one byte more than there is room for
pub one_over : (limit held n most : ℕ) (bytes : List ℕ) → held ≡ length bytes → length bytes ≤ limit → limit - held < n → n ≤ most → most ≤ limit - held + 1 → length bytes + n ≡ limit + 1
one_over limit held n most bytes long few more within cut = omega arith

-- a read that gave a byte or more is one more, and so are the bytes
pub read_more : (first before after n : ℕ) (bytes into more : List ℕ) → before ≤ first + length bytes → after ≡ raised before 1 → ¬ (n ≡ 0) → n ≤ length into
    → more ≡ bytes ++ take n into → after ≤ first + length more
read_more first before after n bytes into more few one some within long =
    omega (arith, few, one, some, within, ap length long, length-append bytes (take n into), length-take n into)
