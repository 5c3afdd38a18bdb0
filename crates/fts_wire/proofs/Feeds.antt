-- Lines of bytes, each with its line feed.
use Rattle.std.proofs.Common.{◌≡◌, ℕ, Bool, true, false, cond, List, [], ◌∷◌, ◌++◌, Option, Some, None, refl, ap, sym, ◌∙◌, subst, append_assoc, append-nil}
use Rattle.std.specs.Prelude.{◌==◌, option_map}
use Rattle.std.specs.List.{concat}
use Rattle.std.proofs.lemmas.Bool.{cond-false, cond_both, eqb-true}
use Rattle.std.proofs.lemmas.List.Elements.{All-nil, All-cons, All-head, All-tail}
use Rattle.fts_wire.specs.Head.{onto_first_line, onto_lines, lines_of, is_empty_line, head_lines}
use Rattle.fts_wire.proofs.Cuts.{NoneOf}

abbrev pub is_feed : ℕ → Bool
is_feed b = b == 10

-- a line: a text without a line feed, and one
pub record IsLine (line : List ℕ) : Type 0 where
  pub text : List ℕ
  pub none : NoneOf is_feed text
  pub is : line ≡ text ++ 10 ∷ []

abbrev pub AreLines : List (List ℕ) → Type 0
AreLines [] = Unit {0}
AreLines (line ∷ lines) = IsLine line × AreLines lines

-- the first line of bytes that begin with one
pub lines_line : (text rest : List ℕ) → NoneOf is_feed text → lines_of (text ++ 10 ∷ rest) ≡ (text ++ 10 ∷ []) ∷ lines_of rest
lines_line [] rest none = refl
lines_line (b ∷ text) rest none =
    ap (onto_lines b) (lines_line text rest (All-tail (λ x. is_feed x ≡ false) b text none))
    ∙ cond-false (b == 10) ((b ∷ []) ∷ ((text ++ 10 ∷ []) ∷ lines_of rest)) (onto_first_line b ((text ++ 10 ∷ []) ∷ lines_of rest))
    (All-head (λ x. is_feed x ≡ false) b text none)

-- bytes without a line feed have no line that has ended
pub lines_none : (text : List ℕ) → NoneOf is_feed text → lines_of text ≡ []
lines_none [] none = refl
lines_none (b ∷ text) none =
    ap (onto_lines b) (lines_none text (All-tail (λ x. is_feed x ≡ false) b text none))
    ∙ cond-false (b == 10) ((b ∷ []) ∷ []) [] (All-head (λ x. is_feed x ≡ false) b text none)

-- bytes without a line feed end no line
pub lines_same : (bytes more : List ℕ) → NoneOf is_feed more → lines_of (bytes ++ more) ≡ lines_of bytes
lines_same [] more none = lines_none more none
lines_same (b ∷ bytes) more none = ap (onto_lines b) (lines_same bytes more none)

-- lines, written one after another, are those lines
pub lines_back : (lines : List (List ℕ)) (rest : List ℕ) → AreLines lines → lines_of (concat lines ++ rest) ≡ lines ++ lines_of rest
lines_back [] rest are = refl
lines_back (line ∷ lines) rest are =
    let text = are.0.text in
    let more = concat lines ++ rest in
    ap lines_of (append_assoc line (concat lines) rest ∙ ap (λ l. l ++ more) are.0.is ∙ append_assoc text (10 ∷ []) more)
    ∙ lines_line text more are.0.none
    ∙ ap (λ l. l ∷ lines_of more) (sym are.0.is) ∙ ap (λ ls. line ∷ ls) (lines_back lines rest are.1)

line_more : (b : ℕ) (line : List ℕ) → b == 10 ≡ false → IsLine line → IsLine (b ∷ line)
line_more b line other l = record {
  text = b ∷ l.text;
  none = All-cons (λ x. is_feed x ≡ false) b l.text other l.none;
  is = ap (λ xs. b ∷ xs) l.is;
}

onto_first_are : (b : ℕ) (lines : List (List ℕ)) → b == 10 ≡ false → AreLines lines → AreLines (onto_first_line b lines)
onto_first_are b [] other are = tt
onto_first_are b (line ∷ lines) other are = (line_more b line other are.0, are.1)

onto_are : (b : ℕ) (lines : List (List ℕ)) → AreLines lines → AreLines (onto_lines b lines)
onto_are b lines are = cond_both (b == 10) ((b ∷ []) ∷ lines) (onto_first_line b lines) AreLines
    (λ e. (record { text = []; none = All-nil (λ x. is_feed x ≡ false); is = ap (λ c. c ∷ []) (eqb-true b 10 e) }, are))
    (λ e. onto_first_are b lines e are)

-- the lines of bytes are lines
pub lines_are : (bytes : List ℕ) → AreLines (lines_of bytes)
lines_are [] = tt
lines_are (b ∷ bytes) = onto_are b (lines_of bytes) (lines_are bytes)

-- more bytes add lines behind those that have ended
onto_first_more : (b : ℕ) (lines more : List (List ℕ)) → (more' : List (List ℕ)) × (onto_first_line b (lines ++ more) ≡ onto_first_line b lines ++ more')
onto_first_more b [] more = (onto_first_line b more, refl)
onto_first_more b (line ∷ lines) more = (more, refl)

onto_more_if : (t : Bool) (b : ℕ) (lines more : List (List ℕ))
    → (more' : List (List ℕ)) × (cond t ((b ∷ []) ∷ (lines ++ more)) (onto_first_line b (lines ++ more)) ≡ cond t ((b ∷ []) ∷ lines)
    (onto_first_line b lines) ++ more')
onto_more_if true b lines more = (more, refl)
onto_more_if false b lines more = onto_first_more b lines more

pub lines_more : (bytes more : List ℕ) → (behind : List (List ℕ)) × (lines_of (bytes ++ more) ≡ lines_of bytes ++ behind)
lines_more [] more = (lines_of more, refl)
lines_more (b ∷ bytes) more =
    let rest = lines_more bytes more in
    let here = onto_more_if (b == 10) b (lines_of bytes) rest.0 in
    (here.0, ap (onto_lines b) rest.1 ∙ here.1)

-- bytes are their lines, and what behind them has not ended
onto_first_rest : (b : ℕ) (lines : List (List ℕ)) (rest : List ℕ) → (rest' : List ℕ) × (b ∷ (concat lines ++ rest) ≡ concat (onto_first_line b lines) ++ rest')
onto_first_rest b [] rest = (b ∷ rest, refl)
onto_first_rest b (line ∷ lines) rest = (rest, refl)

onto_rest_if : (t : Bool) (b : ℕ) (lines : List (List ℕ)) (rest : List ℕ)
    → (rest' : List ℕ) × (b ∷ (concat lines ++ rest) ≡ concat (cond t ((b ∷ []) ∷ lines) (onto_first_line b lines)) ++ rest')
onto_rest_if true b lines rest = (rest, refl)
onto_rest_if false b lines rest = onto_first_rest b lines rest

pub lines_front : (bytes : List ℕ) → (rest : List ℕ) × (bytes ≡ concat (lines_of bytes) ++ rest)
lines_front [] = ([], refl)
lines_front (b ∷ bytes) =
    let tail = lines_front bytes in
    let here = onto_rest_if (b == 10) b (lines_of bytes) tail.0 in
    (here.0, ap (λ xs. b ∷ xs) tail.1 ∙ here.1)

-- the lines of a head begin the lines
pub record IsHeadOf (lines head : List (List ℕ)) : Type 0 where
  pub rest : List (List ℕ)
  pub parts : lines ≡ head ++ rest
  pub again : (more : List (List ℕ)) → head_lines (head ++ more) ≡ Some head

head_here : (line : List ℕ) (lines : List (List ℕ)) → is_empty_line line ≡ true → IsHeadOf (line ∷ lines) (line ∷ [])
head_here line lines e = record {
  rest = lines;
  parts = refl;
  again = λ more. ap (λ t. cond t (Some (line ∷ [])) (option_map (λ ls. line ∷ ls)
      (head_lines more))) e;
}

head_further : (line : List ℕ) (lines head : List (List ℕ)) → is_empty_line line ≡ false → IsHeadOf lines head → IsHeadOf (line ∷ lines) (line ∷ head)
head_further line lines head e h = record {
  rest = h.rest;
  parts = ap (λ ls. line ∷ ls) h.parts;
  again = λ more. ap (λ t. cond t (Some (line ∷ [])) (option_map (λ ls. line ∷ ls) (head_lines (head ++ more)))) e
      ∙ ap (option_map (λ ls. line ∷ ls)) (h.again more);
}

abbrev HeadOf : List (List ℕ) → Option (List (List ℕ)) → Type 0
HeadOf lines None = Unit {0}
HeadOf lines (Some head) = IsHeadOf lines head

head_of_more : (line : List ℕ) (lines : List (List ℕ)) (o : Option (List (List ℕ))) → is_empty_line line ≡ false → HeadOf lines o
    → HeadOf (line ∷ lines) (option_map (λ ls. line ∷ ls) o)
head_of_more line lines None e h = tt
head_of_more line lines (Some head) e h = head_further line lines head e h

head_parts : (lines : List (List ℕ)) → HeadOf lines (head_lines lines)
head_parts [] = tt
head_parts (line ∷ lines) = cond_both (is_empty_line line) (Some (line ∷ [])) (option_map (λ ls. line ∷ ls) (head_lines lines)) (HeadOf (line ∷ lines))
    (λ e. head_here line lines e) (λ e. head_of_more line lines (head_lines lines) e (head_parts lines))

pub head_is : (lines head : List (List ℕ)) → head_lines lines ≡ Some head → IsHeadOf lines head
head_is lines head e = subst (HeadOf lines) e (head_parts lines)

front_are : (front back : List (List ℕ)) → AreLines (front ++ back) → AreLines front
front_are [] back are = tt
front_are (line ∷ front) back are = (are.0, front_are front back are.1)

-- the lines of a head are lines
pub head_are : (bytes : List ℕ) (head : List (List ℕ)) → head_lines (lines_of bytes) ≡ Some head → AreLines head
head_are bytes head e =
    let h = head_is (lines_of bytes) head e in
    front_are head h.rest (subst AreLines h.parts (lines_are bytes))

-- the lines of a head's own bytes are its lines
pub head_back : (bytes : List ℕ) (head : List (List ℕ)) → head_lines (lines_of bytes) ≡ Some head → lines_of (concat head) ≡ head
head_back bytes head e =
    ap lines_of (sym (append-nil (concat head))) ∙ lines_back head [] (head_are bytes head e) ∙ append-nil head

-- a head stays a head, whatever bytes come behind it
pub head_more : (bytes more : List ℕ) (head : List (List ℕ)) → head_lines (lines_of bytes) ≡ Some head → head_lines (lines_of (bytes ++ more)) ≡ Some head
head_more bytes more head e =
    let h = head_is (lines_of bytes) head e in
    let longer = lines_more bytes more in
    ap head_lines (longer.1 ∙ ap (λ ls. ls ++ longer.0) h.parts ∙ append_assoc head h.rest longer.0) ∙ h.again (h.rest ++ longer.0)
