-- Looking for the end of a head, a line at a time.
use Rattle.std.proofs.Common.{◌≡◌, ℕ, ◌+◌, ◌<◌, ◌≤◌, Bool, true, false, cond, List, [], ◌∷◌, ◌++◌, length, take, drop, get_or, Option, Some, None, refl, ap, sym, ◌∙◌, arith, subst, append_assoc, append-nil, length-append, length-drop, take-add, ◌-◌}
use Rattle.std.specs.Prelude.{option_map, slice_range}
use Rattle.std.specs.List.{concat}
use Rattle.std.proofs.lemmas.List.{take_rest, get_or-take, take_more, take-append-drop, drop-drop, length-take-le, drop_more}
use Rattle.std.proofs.lemmas.List.Folds.{concat-append}
use Rattle.std.proofs.lemmas.List.Elements.{All-from_get_or}
use Rattle.fts_wire.specs.Head.{lines_of, is_empty_line, head_lines}
use Rattle.fts_wire.specs.Lines.{IsLineAt, EndsAt}
use Rattle.fts_wire.specs.declared.lines.HeadEnd.{HeadEnd}
use Rattle.fts_wire.proofs.Cuts.{NoneOf}
use Rattle.fts_wire.proofs.Feeds.{is_feed, lines_line, lines_none}

-- so many bytes of which none is a line feed, and then one
pub line_at : (bytes : List ℕ) (i : ℕ) → i < length bytes → ((k : ℕ) → k < i → is_feed (get_or bytes k 0) ≡ false) → get_or bytes i 0 ≡ 10
    → IsLineAt bytes (i + 1)
line_at bytes i h none feed =
    let text = take i bytes in
    let rest = drop (i + 1) bytes in
    let long : length text ≡ i = length-take-le i bytes (omega arith) in
    let no : NoneOf is_feed text = All-from_get_or (λ b. is_feed b ≡ false) text 0 (λ k m. subst (λ b. is_feed b ≡ false) (sym
    (get_or-take i bytes k 0 (omega (arith, long, m)))) (none k (omega (arith, long, m)))) in
    let cut : bytes ≡ text ++ 10 ∷ rest =
    sym (take-append-drop i bytes) ∙ ap (λ xs. text ++ xs) (drop_more bytes i 0 h) ∙ ap (λ b. text ++ b ∷ rest) feed in
    let line : text ++ 10 ∷ [] ≡ take (i + 1) bytes = ap (λ b. text ++ b ∷ []) (sym feed) ∙ sym (take_more bytes i 0 h) in record {
      lines = ap lines_of cut ∙ lines_line text rest no ∙ ap (λ l. l ∷ lines_of rest) line;
      some = omega arith;
      within = omega (arith, h);
    }

-- no line feed at all
pub line_none : (bytes : List ℕ) → ((k : ℕ) → k < length bytes → is_feed (get_or bytes k 0) ≡ false) → lines_of bytes ≡ []
line_none bytes none = lines_none bytes (All-from_get_or (λ b. is_feed b ≡ false) bytes 0 none)

-- these lines in front of a head
abbrev pub behind_lines : List (List ℕ) → Option (List (List ℕ)) → Option (List (List ℕ))
behind_lines done head = option_map (λ lines. done ++ lines) head

-- so many lines stand in the first bytes, and none of them is empty
pub record Passed (bytes : List ℕ) (size count : ℕ) : Type 0 where
  pub done : List (List ℕ)
  pub head : head_lines (lines_of bytes) ≡ behind_lines done (head_lines (lines_of (drop size bytes)))
  pub own : concat done ≡ take size bytes
  pub within : size ≤ length bytes
  pub count_is : length done ≡ count
  pub few : count ≤ size

nil_behind : (o : Option (List (List ℕ))) → o ≡ behind_lines [] o
nil_behind None = refl
nil_behind (Some lines) = refl

pub passed_none : (bytes : List ℕ) → Passed bytes 0 0
passed_none bytes = record { done = []; head = nil_behind (head_lines (lines_of bytes)); own = refl; within = omega arith; count_is = refl; few = omega arith }

push_behind : (done : List (List ℕ)) (line : List ℕ) (o : Option (List (List ℕ)))
    → behind_lines done (option_map (λ ls. line ∷ ls) o) ≡ behind_lines (done ++ line ∷ []) o
push_behind done line None = refl
push_behind done line (Some lines) = ap Some (sym (append_assoc done (line ∷ []) lines))

-- the bytes of a line more
bytes_more : (bytes : List ℕ) (size n : ℕ) (done : List (List ℕ)) → concat done ≡ take size bytes → size ≤ length bytes → n ≤ length (drop size bytes)
    → concat (done ++ take n (drop size bytes) ∷ []) ≡ take (size + n) bytes
bytes_more bytes size n done own within few =
    let line = take n (drop size bytes) in
    concat-append done (line ∷ []) ∙ ap (λ xs. concat done ++ xs) (append-nil line) ∙ ap (λ xs. xs ++ line) own ∙ sym (take-add size n bytes)

behind_by : (bytes : List ℕ) (size n : ℕ) (count : ℕ) → (p : Passed bytes size count) → IsLineAt (drop size bytes) n
    → head_lines (lines_of bytes) ≡ behind_lines p.done (head_lines (take n (drop size bytes) ∷ lines_of (drop (size + n) bytes)))
behind_by bytes size n count p l =
    p.head ∙ ap (λ ls. behind_lines p.done (head_lines ls)) (l.lines ∙ ap (λ xs. take n (drop size bytes) ∷ lines_of xs) (drop-drop n size bytes))

-- a line that is not empty
pub passed_more : (bytes : List ℕ) (size n count : ℕ) → Passed bytes size count → IsLineAt (drop size bytes) n
    → is_empty_line (take n (drop size bytes)) ≡ false
    → Passed bytes (size + n) (count + 1)
passed_more bytes size n count p l full =
    let line = take n (drop size bytes) in
    let rest = head_lines (lines_of (drop (size + n) bytes)) in record {
      done = p.done ++ line ∷ [];
      head = behind_by bytes size n count p l ∙ ap (λ t. behind_lines p.done (cond t (Some (line ∷ [])) (option_map (λ ls. line ∷ ls) rest))) full
          ∙ push_behind p.done line rest;
      own = bytes_more bytes size n p.done p.own p.within l.within;
      within = omega (arith, p.within, l.within, length-drop size bytes);
      count_is = omega (arith, p.count_is, length-append p.done (line ∷ []));
      few = omega (arith, p.few, l.some);
    }

-- the empty line
pub passed_end : (bytes : List ℕ) (size n count : ℕ) (end : HeadEnd) → Passed bytes size count → IsLineAt (drop size bytes) n
    → is_empty_line (take n (drop size bytes)) ≡ true
    → end.size ≡ size + n → end.lines ≡ count + 1 → EndsAt bytes end
passed_end bytes size n count end p l empty size_is lines_is =
    let line = take n (drop size bytes) in
    let rest = head_lines (lines_of (drop (size + n) bytes)) in record {
      lines = p.done ++ line ∷ [];
      head = behind_by bytes size n count p l ∙ ap (λ t. behind_lines p.done (cond t (Some (line ∷ [])) (option_map (λ ls. line ∷ ls) rest))) empty;
      own = bytes_more bytes size n p.done p.own p.within l.within ∙ ap (λ m. take m bytes) (sym size_is);
      within = omega (arith, p.within, l.within, length-drop size bytes, size_is);
      some = omega (arith, l.some, size_is);
      count = omega (arith, p.count_is, lines_is, length-append p.done (line ∷ []));
    }

-- no line more
pub passed_all : (bytes : List ℕ) (size count : ℕ) → Passed bytes size count → lines_of (drop size bytes) ≡ [] → head_lines (lines_of bytes) ≡ None
passed_all bytes size count p none = p.head ∙ ap (λ ls. behind_lines p.done (head_lines ls)) none

-- the same of slices, as a loop has them
pub line_in : (bytes : List ℕ) (size n : ℕ) → IsLineAt (slice_range bytes size (length bytes)) n → IsLineAt (drop size bytes) n
line_in bytes size n l = subst (λ xs. IsLineAt xs n) (take_rest bytes size) l

pub line_is : (bytes : List ℕ) (size n : ℕ) (t : Bool) → t ≡ is_empty_line (slice_range bytes size (size + n)) → (e : Bool) → t ≡ e
    → is_empty_line (take n (drop size bytes)) ≡ e
line_is bytes size n t is e same =
    let few : n ≡ size + n - size = omega arith in
    ap (λ m. is_empty_line (take m (drop size bytes))) few ∙ sym is ∙ same
