-- What each step keeps of a world: responses are of the primary's list, and the standby's list begins it.
use Rattle.std.proofs.Common.{◌≡◌, refl, sym, ◌∙◌, ap, subst, inl, inr, ℕ, zero, suc, ◌==◌, Bool, true, false, if◌then◌else◌, Option, Some, None, List, [], ◌∷◌, ◌++◌, length, append_assoc}
use Rattle.std.proofs.lemmas.Bool.{eqb-true}
use Rattle.std.specs.Prelude.{slice_get}
use Rattle.fts_standby.specs.Worlds.{Response, Gives, Refuses, Fate, Appended, Doubted, Dropped, Standby, World, started, Step, Appends, Answers, Fails, Hands, Settles, Restarts, spellings, response_by, response_to, with_fate, taken, handed, found, stepped, reached, IsPrefix, IsPrefixWith, StandsForPrefix, StandbyFollows}
use Rattle.fts_tables.specs.declared.commands.Entry.{Entry}
use Rattle.fts_record.specs.Spelling.{spelled}
use Rattle.fts_journal.specs.Journal.{IsImageOf}

-- a response gives what the list has at its number
IsOf : List (List ℕ) → Response → Type 0
IsOf list (Gives number body count) = slice_get list number ≡ Some body
IsOf list (Refuses status) = Unit {0}

AreOf : List (List ℕ) → List Response → Type 0
AreOf list [] = Unit {0}
AreOf list (response ∷ responses) = IsOf list response × AreOf list responses

IsOfAny : List (List ℕ) → Option Response → Type 0
IsOfAny list None = Unit {0}
IsOfAny list (Some response) = IsOf list response

-- nothing is not something
pub none_some : {A : Type 0} (x : A) → None ≡ Some x → ⊥
none_some x e = cc

-- and something is but one
pub some_is : {A : Type 0} (x y : A) → Some x ≡ Some y → x ≡ y
some_is x y e = cc

-- what is had stays had
get_more : {A : Type 0} (xs : List A) (n : ℕ) (x y : A) → slice_get xs n ≡ Some x → slice_get (xs ++ y ∷ []) n ≡ Some x
get_more [] n x y e = absurd (none_some x e)
get_more (z ∷ xs) zero x y e = e
get_more (z ∷ xs) (suc n) x y e = get_more xs n x y e

is_of_more : (list : List (List ℕ)) (body : List ℕ) (response : Response) → IsOf list response → IsOf (list ++ body ∷ []) response
unfolding IsOf
is_of_more list body (Gives number given count) e = get_more list number given body e
is_of_more list body (Refuses status) e = tt

refuses_of : (list : List (List ℕ)) (status : ℕ) → IsOf list (Refuses status)
unfolding IsOf
refuses_of list status = tt

are_of_more : (list : List (List ℕ)) (body : List ℕ) (responses : List Response) → AreOf list responses → AreOf (list ++ body ∷ []) responses
unfolding AreOf
are_of_more list body [] each = tt
are_of_more list body (response ∷ responses) each = (is_of_more list body response each.0, are_of_more list body responses each.1)

are_of_append : (list : List (List ℕ)) (responses : List Response) (response : Response) → AreOf list responses → IsOf list response → AreOf list (responses ++ response ∷ [])
unfolding AreOf
are_of_append list [] response each one = (one, tt)
are_of_append list (first ∷ responses) response each one = (each.0, are_of_append list responses response each.1 one)

answer_of_list : (list : List (List ℕ)) (count number : ℕ) (found : Option (List ℕ)) → slice_get list number ≡ found → IsOf list (response_by count number found)
unfolding IsOf
answer_of_list list count number (Some body) e = e
answer_of_list list count number None e = tt

picked : (list : List (List ℕ)) (responses : List Response) (n : ℕ) → AreOf list responses → IsOfAny list (slice_get responses n)
unfolding AreOf IsOfAny
picked list [] n each = tt
picked list (response ∷ responses) zero each = each.0
picked list (response ∷ responses) (suc n) each = picked list responses n each.1

-- a list that begins another begins it with what stands there next
next_of : {A : Type 0} (front rest : List A) (x : A) → slice_get (front ++ rest) (length front) ≡ Some x → IsPrefix (front ++ x ∷ []) (front ++ rest)
next_of [] [] x e = absurd (none_some x e)
next_of [] (y ∷ rest) x e = record { rest = rest; is = ap (λ z. z ∷ rest) (some_is y x e) }
next_of (z ∷ front) rest x e =
    let behind = next_of front rest x e in
    record { rest = behind.rest; is = ap (λ l. z ∷ l) behind.is }

prefix_next : {A : Type 0} (front whole : List A) (x : A) → IsPrefix front whole → slice_get whole (length front) ≡ Some x → IsPrefix (front ++ x ∷ []) whole
prefix_next front whole x begins e =
    subst (λ l. IsPrefix (front ++ x ∷ []) l) (sym begins.is) (next_of front begins.rest x (subst (λ l. slice_get l (length front) ≡ Some x) begins.is e))

prefix_more : {A : Type 0} (front whole : List A) (x : A) → IsPrefix front whole → IsPrefix front (whole ++ x ∷ [])
prefix_more front whole x begins = record { rest = begins.rest ++ x ∷ []; is = ap (λ l. l ++ x ∷ []) begins.is ∙ append_assoc front begins.rest (x ∷ []) }

prefix_with_more : {A : Type 0} (front : List A) (more : Option A) (whole : List A) (x : A) → IsPrefixWith front more whole → IsPrefixWith front more (whole ++ x ∷ [])
prefix_with_more front None whole x begins = tt
prefix_with_more front (Some more) whole x begins = prefix_more (front ++ more ∷ []) whole x begins

-- a standby that begins a list
record Begins (list : List (List ℕ)) (standby : Standby) : Type 0 where
  own : IsPrefix standby.list list
  doubt : IsPrefixWith standby.list standby.doubt list

begins_more : (list : List (List ℕ)) (body : List ℕ) (standby : Standby) → Begins list standby → Begins (list ++ body ∷ []) standby
begins_more list body standby begins = record {
  own = prefix_more standby.list list body begins.own;
  doubt = prefix_with_more standby.list standby.doubt list body begins.doubt;
}

-- with nothing in doubt it may take what the list has next
fated : (list : List (List ℕ)) (fate : Fate) (body : List ℕ) (standby : Standby) → standby.doubt ≡ None → Begins list standby
    → slice_get list (length standby.list) ≡ Some body → Begins list (with_fate fate body standby)
fated list Appended body standby sure begins e = record {
  own = prefix_next standby.list list body begins.own e;
  doubt = subst (λ d. IsPrefixWith (standby.list ++ body ∷ []) d list) (sym sure) tt;
}
fated list Doubted body standby sure begins e = record { own = begins.own; doubt = prefix_next standby.list list body begins.own e }
fated list Dropped body standby sure begins e = begins

by_number : (list : List (List ℕ)) (fate : Fate) (number : ℕ) (body : List ℕ) (standby : Standby) (same : Bool) → same ≡ (number == length standby.list) → standby.doubt ≡ None
    → Begins list standby → slice_get list number ≡ Some body → Begins list (if same then with_fate fate body standby else standby)
by_number list fate number body standby true is sure begins e =
    fated list fate body standby sure begins (subst (λ n. slice_get list n ≡ Some body) (eqb-true number (length standby.list) (sym is)) e)
by_number list fate number body standby false is sure begins e = begins

by_doubt : (list : List (List ℕ)) (fate : Fate) (number : ℕ) (body : List ℕ) (standby : Standby) (doubt : Option (List ℕ)) → standby.doubt ≡ doubt
    → Begins list standby → slice_get list number ≡ Some body → Begins list (taken fate number body standby doubt)
by_doubt list fate number body standby None sure begins e = by_number list fate number body standby (number == length standby.list) refl sure begins e
by_doubt list fate number body standby (Some other) sure begins e = begins

-- whatever is handed to it
hands : (list : List (List ℕ)) (fate : Fate) (whole : Bool) (response : Option Response) (standby : Standby) → Begins list standby → IsOfAny list response
    → Begins list (handed fate whole response standby)
unfolding IsOfAny IsOf
hands list fate true (Some (Gives number body count)) standby begins e = by_doubt list fate number body standby standby.doubt refl begins e
hands list fate true (Some (Refuses status)) standby begins e = begins
hands list fate true None standby begins e = begins
hands list fate false response standby begins e = begins

-- whatever image it restarts from
restarts : (list : List (List ℕ)) (doubted : Bool) (own : List (List ℕ)) (doubt : Option (List ℕ)) → IsPrefix own list → IsPrefixWith own doubt list → IsPrefix (found doubted own doubt) list
restarts list true own (Some body) begins with_body = with_body
restarts list true own None begins with_body = begins
restarts list false own doubt begins with_body = begins

-- what all worlds keep
record Keeps (w : World) : Type 0 where
  made : AreOf (spellings w.primary) w.made
  begins : Begins (spellings w.primary) w.standby

-- the spellings of one entry more
spellings_more : (entries : List Entry) (entry : Entry) → spellings (entries ++ entry ∷ []) ≡ spellings entries ++ spelled entry ∷ []
spellings_more [] entry = refl
spellings_more (first ∷ entries) entry = ap (λ l. spelled first ∷ l) (spellings_more entries entry)

step_keeps : (step : Step) (w : World) → Keeps w → Keeps (stepped step w)
step_keeps (Appends entry) w kept =
    let bodies = spellings w.primary in
    let more = sym (spellings_more w.primary entry) in
    record {
      made = subst (λ l. AreOf l w.made) more (are_of_more bodies (spelled entry) w.made kept.made);
      begins = subst (λ l. Begins l w.standby) more (begins_more bodies (spelled entry) w.standby kept.begins);
    }
step_keeps (Answers number) w kept =
    let bodies = spellings w.primary in
    record {
      made = are_of_append bodies w.made (response_to w.primary number) kept.made (answer_of_list bodies (length w.primary) number (slice_get bodies number) refl);
      begins = kept.begins;
    }
step_keeps (Fails status) w kept =
    let bodies = spellings w.primary in
    record { made = are_of_append bodies w.made (Refuses status) kept.made (refuses_of bodies status); begins = kept.begins }
step_keeps (Hands place whole fate) w kept =
    let bodies = spellings w.primary in
    record {
      made = kept.made;
      begins = hands bodies fate whole (slice_get w.made place) w.standby kept.begins (picked bodies w.made place kept.made);
    }
step_keeps Settles w kept = record { made = kept.made; begins = record { own = kept.begins.own; doubt = tt } }
step_keeps (Restarts doubted) w kept = record {
  made = kept.made;
  begins = record { own = restarts (spellings w.primary) doubted w.standby.list w.standby.doubt kept.begins.own kept.begins.doubt; doubt = tt };
}

steps_keep : (steps : List Step) (w : World) → Keeps w → Keeps (reached w steps)
steps_keep [] w kept = kept
steps_keep (step ∷ steps) w kept = steps_keep steps (stepped step w) (step_keeps step w kept)

starts_kept : (primary : List Entry) → Keeps (started primary)
unfolding AreOf
starts_kept primary = record { made = tt; begins = record { own = record { rest = spellings primary; is = refl }; doubt = tt } }

-- an image stands for a beginning
image_begins : (list : List (List ℕ)) (own : List (List ℕ)) (doubt : Option (List ℕ)) (content : List ℕ) → IsPrefix own list → IsPrefixWith own doubt list → IsImageOf own doubt content → StandsForPrefix list content
image_begins list own None content begins with_body image = record { bodies = own; stands = image; prefix = begins }
image_begins list own (Some body) content begins with_body (inl image) = record { bodies = own; stands = image; prefix = begins }
image_begins list own (Some body) content begins with_body (inr image) = record { bodies = own ++ body ∷ []; stands = image; prefix = with_body }

pub follows_always : StandbyFollows
follows_always primary steps =
    let w = reached (started primary) steps in
    let kept : Keeps w = steps_keep steps (started primary) (starts_kept primary) in
    record { list = kept.begins.own; images = λ content image. image_begins (spellings w.primary) w.standby.list w.standby.doubt content kept.begins.own kept.begins.doubt image }
