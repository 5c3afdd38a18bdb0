-- What a stop leaves of a disk in memory is one of the images at that moment.
use Rattle.std.proofs.Common.{◌≡◌, inr, ℕ, ◌+◌, ◌≤◌, ◌<◌, max, true, false, List, [], ◌∷◌, ◌++◌, length, take, drop, get_or, suc, IsTrue, refl, sym, ◌∙◌, ap, subst, arith, length-append, length-drop}
use Rattle.std.proofs.lemmas.List.{length-take-le, length-replicate, take-append-drop, take_more, take_all}
use Rattle.std.proofs.lemmas.Bool.{leb-true}
use Rattle.std.proofs.Math.ListN.{replicate}
use Rattle.std.proofs.Math.Seq.{drop-cons}
use Rattle.fts_disk.specs.Disk.{Torn, content_with}
use Rattle.fts_disk.specs.Replay.{Held, on_disk, content_after, held_after, replayed, held_by, is_within, are_within, Stopped, stopped_on, stopped_after, stopped_through, left_by}
use Rattle.fts_disk.specs.declared.call.Call.{Call}
use Rattle.fts_disk.specs.declared.call.Call.TheVariants.{Looked, Wrote, Synced}
use Rattle.fts_disk.proofs.Replays.{torn_written, left_of, right_of, both_of}

-- the content beside what a stop leaves is the content after the call
content_of : (byte : ℕ) (stopped : Stopped) (call : Call) → (stopped_after byte stopped call).content ≡ content_after stopped.content call
content_of byte stopped Looked = refl
content_of byte stopped (Wrote at bytes done) = refl
content_of byte stopped (Synced true) = refl
content_of byte stopped (Synced false) = refl

-- so each write began inside that content
rest_within : (byte : ℕ) (stopped : Stopped) (call : Call) (calls : List Call) → IsTrue (are_within stopped.content (call ∷ calls)) → IsTrue (are_within (stopped_after byte stopped call).content calls)
rest_within byte stopped call calls within = subst (λ (c : List ℕ). IsTrue (are_within c calls)) (sym (content_of byte stopped call)) (right_of _ _ within)

-- one call more
pub stopped-more : (byte : ℕ) (stopped : Stopped) (calls : List Call) (call : Call) → stopped_through byte stopped (calls ++ call ∷ []) ≡ stopped_after byte (stopped_through byte stopped calls) call
stopped-more byte stopped [] call = refl
stopped-more byte stopped (c ∷ calls) call = stopped-more byte (stopped_after byte stopped c) calls call

-- a call among others began inside the content before it
pub call_within : (byte : ℕ) (stopped : Stopped) (calls : List Call) (call : Call) (others : List Call) → IsTrue (are_within stopped.content (calls ++ call ∷ others)) → IsTrue (is_within (stopped_through byte stopped calls).content call)
call_within byte stopped [] call others within = left_of _ _ within
call_within byte stopped (c ∷ calls) call others within = call_within byte (stopped_after byte stopped c) calls call others (rest_within byte stopped c (calls ++ call ∷ others) within)

-- the first of the calls began inside it as well
pub first_within : (content : List ℕ) (calls others : List Call) → IsTrue (are_within content (calls ++ others)) → IsTrue (are_within content calls)
first_within content [] others within = refl
first_within content (c ∷ calls) others within = both_of _ _ (left_of _ _ within) (first_within (content_after content c) calls others (right_of _ _ within))

-- bytes written inside a content, or at its end, leave the longer of both
length-content_with : (old : List ℕ) (at : ℕ) (bytes : List ℕ) → at ≤ length old → length (content_with old at bytes) ≡ max (length old) (at + length bytes)
length-content_with old at bytes le =
    let front : length (take at old) ≡ at = length-take-le at old le in
    omega (arith, front, length-append (take at old ++ bytes) (drop (at + length bytes) old), length-append (take at old) bytes, length-drop (at + length bytes) old)

-- what a stop leaves is no shorter than the content
stays_longer : (byte : ℕ) (stopped : Stopped) (call : Call) → length stopped.content ≤ length stopped.left → IsTrue (is_within stopped.content call) → length (stopped_after byte stopped call).content ≤ length (stopped_after byte stopped call).left
stays_longer byte stopped Looked le within = le
stays_longer byte stopped (Wrote at bytes true) le within =
    let inside : at ≤ length stopped.content = leb-true at _ within in
    let left : at ≤ length stopped.left = omega (arith, inside, le) in
    omega (arith, le, length-content_with stopped.content at bytes.items inside, length-content_with stopped.left at (replicate (length bytes.items) byte) left, length-replicate (length bytes.items) byte)
stays_longer byte stopped (Wrote at bytes false) le within =
    let inside : at ≤ length stopped.content = leb-true at _ within in
    let left : at ≤ length stopped.left = omega (arith, inside, le) in
    omega (arith, le, length-content_with stopped.left at (replicate (length bytes.items) byte) left)
stays_longer byte stopped (Synced true) le within = omega arith
stays_longer byte stopped (Synced false) le within = le

-- and after any calls
pub stays_longer_through : (byte : ℕ) (stopped : Stopped) (calls : List Call) → length stopped.content ≤ length stopped.left → IsTrue (are_within stopped.content calls) → length (stopped_through byte stopped calls).content ≤ length (stopped_through byte stopped calls).left
stays_longer_through byte stopped [] le within = le
stays_longer_through byte stopped (c ∷ calls) le within = stays_longer_through byte (stopped_after byte stopped c) calls (stays_longer byte stopped c le (left_of _ _ within)) (rest_within byte stopped c calls within)

-- what a stop leaves is an image after a call, where it was one before
image_after : (byte : ℕ) (held : Held) (stopped : Stopped) (call : Call) → held.content ≡ stopped.content → held.images stopped.left → length stopped.content ≤ length stopped.left → IsTrue (is_within stopped.content call)
    → (held_after held call).images (stopped_after byte stopped call).left
image_after byte held stopped Looked same is le within = is
image_after byte held stopped (Wrote at bytes done) same is le within =
    let inside : at ≤ length stopped.content = leb-true at _ within in
    let any : List ℕ = replicate (length bytes.items) byte in
    inr (stopped.left, is, subst (λ (n : ℕ). Torn at n stopped.left (content_with stopped.left at any)) (length-replicate (length bytes.items) byte) (torn_written stopped.left at any (omega (arith, inside, le))))
image_after byte held stopped (Synced true) same is le within = sym same
image_after byte held stopped (Synced false) same is le within = is

-- and after any calls
image_through : (byte : ℕ) (held : Held) (stopped : Stopped) (calls : List Call) → held.content ≡ stopped.content → held.images stopped.left → length stopped.content ≤ length stopped.left → IsTrue (are_within stopped.content calls)
    → (replayed held calls).images (stopped_through byte stopped calls).left
image_through byte held stopped [] same is le within = is
image_through byte held stopped (c ∷ calls) same is le within =
    image_through byte (held_after held c) (stopped_after byte stopped c) calls
    (ap (λ (l : List ℕ). content_after l c) same ∙ sym (content_of byte stopped c))
    (image_after byte held stopped c same is le (left_of _ _ within))
    (stays_longer byte stopped c le (left_of _ _ within))
    (rest_within byte stopped c calls within)

-- a content and what is left, put together again
pair_of : (content left : List ℕ) (stopped : Stopped) → content ≡ stopped.content → left ≡ stopped.left → record { content = content; left = left } ≡ stopped
pair_of content left stopped same_content same_left =
    ap (λ (c : List ℕ). record { content = c; left = left }) same_content ∙ ap (λ (l : List ℕ). record { content = stopped.content; left = l }) same_left

-- the first calls of a disk
taken_within : (first : List ℕ) (calls : List Call) (n : ℕ) → IsTrue (are_within first calls) → IsTrue (are_within first (take n calls))
taken_within first calls n within = first_within first (take n calls) (drop n calls) (subst (λ (l : List Call). IsTrue (are_within first l)) (sym (take-append-drop n calls)) within)

-- what a stop leaves after the first calls is one of the images then
pub left_is_image : (byte : ℕ) (first : List ℕ) (calls : List Call) (n : ℕ) → IsTrue (are_within first calls) → (held_by first (take n calls)).images (left_by byte first (take n calls))
left_is_image byte first calls n within = image_through byte (on_disk first) (stopped_on first) (take n calls) refl refl (omega arith) (taken_within first calls n within)

-- a run through the first n calls of a disk, k of which have passed
module _ (byte : ℕ) (first : List ℕ) (calls : List Call) (n k : ℕ) (content left : List ℕ) (far : stopped_through byte (stopped_on first) (take k (take n calls)) ≡ record { content = content; left = left }) (within : IsTrue (are_within first calls)) where
  -- the next call began inside the content
  pub next_within : (call : Call) → call ≡ get_or (take n calls) k call → k < length (take n calls) → IsTrue (is_within content call)
  next_within call is lt =
      let split : take n calls ≡ take k (take n calls) ++ (call ∷ drop (suc k) (take n calls)) =
      sym (take-append-drop k (take n calls)) ∙ ap (λ (l : List Call). take k (take n calls) ++ l) (drop-cons (take n calls) k call lt ∙ ap (λ (x : Call). x ∷ drop (suc k) (take n calls)) (sym is)) in
      subst (λ (s : Stopped). IsTrue (is_within s.content call)) far
      (call_within byte (stopped_on first) (take k (take n calls)) call (drop (suc k) (take n calls)) (subst (λ (l : List Call). IsTrue (are_within first l)) split (taken_within first calls n within)))

  -- what a stop leaves is no shorter than the content
  pub far_longer : length content ≤ length left
  far_longer = subst (λ (s : Stopped). length s.content ≤ length s.left) far
      (stays_longer_through byte (stopped_on first) (take k (take n calls)) (omega arith) (taken_within first (take n calls) k (taken_within first calls n within)))

  -- one call further
  pub further : (call : Call) (content' left' : List ℕ) → call ≡ get_or (take n calls) k call → k < length (take n calls)
      → content' ≡ (stopped_after byte (record { content = content; left = left }) call).content → left' ≡ (stopped_after byte (record { content = content; left = left }) call).left
      → stopped_through byte (stopped_on first) (take (k + 1) (take n calls)) ≡ record { content = content'; left = left' }
  further call content' left' is lt same_content same_left =
      let more : take (k + 1) (take n calls) ≡ take k (take n calls) ++ call ∷ [] = take_more (take n calls) k call lt ∙ ap (λ (x : Call). take k (take n calls) ++ x ∷ []) (sym is) in
      ap (λ (l : List Call). stopped_through byte (stopped_on first) l) more
      ∙ stopped-more byte (stopped_on first) (take k (take n calls)) call
      ∙ ap (λ (s : Stopped). stopped_after byte s call) far
      ∙ sym (pair_of content' left' (stopped_after byte (record { content = content; left = left }) call) same_content same_left)

  -- past the last call, what is left is an image
  pub ended_image : length (take n calls) ≤ k → (held_by first (take n calls)).images left
  ended_image past =
      let left_is : left ≡ left_by byte first (take n calls) = sym (ap (λ (s : Stopped). s.left) far) ∙ ap (λ (l : List Call). left_by byte first l) (take_all k (take n calls) past) in
      subst (λ (l : List ℕ). (held_by first (take n calls)).images l) (sym left_is) (left_is_image byte first calls n within)
