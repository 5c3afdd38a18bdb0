-- A response's bytes are read in one way: its status and its body, and where it ends.
use Rattle.std.proofs.Common.{◌≡◌, ℕ, ◌+◌, ◌*◌, ◌%◌, ◌^◌, ◌<◌, ◌≤◌, Bool, true, false, cond, ◌||◌, ◌==◌, List, [], ◌∷◌, ◌++◌, length, take, drop, slice_index, refl, ap, sym, ◌∙◌, subst, arith, append_assoc, append-nil, true≢false, eqb-true}
use Rattle.std.specs.Prelude.{codes, decimal, bytes_eq, if◌then◌else◌}
use Rattle.std.specs.List.{list_any, AllByRecursion}
use Rattle.std.specs.Str.Parse.{digits_value}
use Rattle.std.specs.Fmt.{digits}
use Rattle.std.proofs.lemmas.Fmt.{decimal_is_IsNumeral, decimal_by_steps}
use Rattle.fts_wire.specs.Response.{phrase_of, has_phrase, methods_of, allow_line_of, close_line_of, response_of}
use Rattle.fts_wire.specs.declared.response.Allow.{Allow}
use Rattle.fts_wire.specs.declared.response.Allow.TheVariants.{None as NoAllow, Jobs, Job, Get, File}
use Rattle.fts_wire.specs.NextAnswers.{AnswerData, IsInside, BeginsWith}

-- ---- lists

pub same_behind : (word one other : List ℕ) → word ++ one ≡ word ++ other → one ≡ other
same_behind [] one other is = is
same_behind (byte ∷ word) one other is = same_behind word one other (ap (drop 1) is)

same_parts : (one other more rest : List ℕ) → length one ≡ length other → one ++ more ≡ other ++ rest → (one ≡ other) × (more ≡ rest)
same_parts [] [] more rest long is = (refl, is)
same_parts [] (byte ∷ other) more rest long is = absurd (omega (arith, long))
same_parts (byte ∷ one) [] more rest long is = absurd (omega (arith, long))
same_parts (byte ∷ one) (next ∷ other) more rest long is =
    let behind = same_parts one other more rest (omega (arith, long)) (ap (drop 1) is) in
    (ap (λ (first : ℕ). first ∷ one) (ap (λ list. slice_index list 0) is) ∙ ap (λ list. next ∷ list) behind.0, behind.1)

-- ---- numbers that end at a carriage return

-- no byte is a carriage return
abbrev HasNoReturn : List ℕ → Type 0
HasNoReturn [] = Unit {0}
HasNoReturn (byte ∷ bytes) = (byte ≡ 13 → ⊥) × HasNoReturn bytes

no_return-push : (bytes : List ℕ) (byte : ℕ) → HasNoReturn bytes → (byte ≡ 13 → ⊥) → HasNoReturn (bytes ++ byte ∷ [])
no_return-push [] byte none is = (is, tt)
no_return-push (first ∷ bytes) byte none is = (none.0, no_return-push bytes byte none.1 is)

no_digit : (n : ℕ) → 48 + n ≡ 13 → ⊥
no_digit n is = absurd (omega (arith, is))

decimal_has_none : (n : ℕ) → n < 2 ^ 64 → HasNoReturn (decimal n)
decimal_has_none n small = decimal_by_steps (λ _ bytes. HasNoReturn bytes) (λ digit few. (no_digit digit, tt))
    (λ number bytes more none. no_return-push bytes (48 + number % 10) none (no_digit (number % 10))) n small

-- words without a carriage return, up to the first one
up_to_return : (one other more rest : List ℕ) → HasNoReturn one → HasNoReturn other → one ++ 13 ∷ more ≡ other ++ 13 ∷ rest → (one ≡ other) × (more ≡ rest)
up_to_return [] [] more rest none none_too is = (refl, ap (drop 1) is)
up_to_return [] (byte ∷ other) more rest none none_too is = absurd (none_too.0 (sym (ap (λ list. slice_index list 0) is)))
up_to_return (byte ∷ one) [] more rest none none_too is = absurd (none.0 (ap (λ list. slice_index list 0) is))
up_to_return (byte ∷ one) (next ∷ other) more rest none none_too is =
    let behind = up_to_return one other more rest none.1 none_too.1 (ap (drop 1) is) in
    (ap (λ (first : ℕ). first ∷ one) (ap (λ list. slice_index list 0) is) ∙ ap (λ list. next ∷ list) behind.0, behind.1)

same_number : (one other : ℕ) → one < 2 ^ 64 → other < 2 ^ 64 → decimal one ≡ decimal other → one ≡ other
same_number one other small small_too is =
    sym (decimal_is_IsNumeral one small).1 ∙ (ap (digits_value 10) is ∙ (decimal_is_IsNumeral other small_too).1)

-- ---- the head of a response

-- a fact of each status that has a phrase
pub by_statuses : (Holds : ℕ → Type 0) (status : ℕ) (statuses : List ℕ) → AllByRecursion Holds statuses → list_any (λ one. one == status) statuses ≡ true → Holds status
by_statuses Holds status [] each is = absurd (true≢false (sym is))
by_statuses Holds status (one ∷ statuses) each is =
    by_head (λ more. by_statuses Holds status statuses each.1 more) (one == status) refl is
  where
    by_head : (list_any (λ one. one == status) statuses ≡ true → Holds status) → (answer : Bool) → (one == status) ≡ answer
        → (answer || list_any (λ one. one == status) statuses) ≡ true → Holds status
    by_head behind true same is = subst Holds (eqb-true one status same) each.0
    by_head behind false same is = behind is

-- what stands before the length of the body, and behind it
abbrev pub front : ℕ → List ℕ
front status = codes "HTTP/1.1 " ++ decimal status ++ codes " " ++ phrase_of status ++ codes "\r\nContent-Type: application/json\r\nContent-Length: "

abbrev pub lines : ℕ → Allow → Bool → List ℕ
lines status allow close = allow_line_of status allow ++ close_line_of close ++ codes "\r\n"

-- the number that three digits are, from the tenth byte on, with what their bytes have more
abbrev status_in : List ℕ → ℕ
status_in bytes = slice_index bytes 9 * 100 + slice_index bytes 10 * 10 + slice_index bytes 11

-- a response with this body, and what is behind it
abbrev pub all_of : ℕ → Allow → Bool → List ℕ → List ℕ → List ℕ
all_of status allow close body behind = front status ++ (decimal (length body) ++ (13 ∷ 10 ∷ (lines status allow close ++ (body ++ behind))))

status_read : (status : ℕ) → has_phrase status ≡ true → (more : List ℕ) → status_in (front status ++ more) ≡ status + 5328
unfolding digits
status_read status is = by_statuses (λ one. (more : List ℕ) → status_in (front one ++ more) ≡ one + 5328) status
    (200 ∷ 400 ∷ 403 ∷ 404 ∷ 405 ∷ 409 ∷ 413 ∷ 431 ∷ 500 ∷ 501 ∷ 503 ∷ 507 ∷ [])
    (λ more. refl, (λ more. refl, (λ more. refl, (λ more. refl, (λ more. refl, (λ more. refl, (λ more. refl, (λ more. refl, (λ more. refl, (λ more. refl, (λ more. refl, (λ more. refl, tt)))))))))))) is

-- what is behind the first empty line
abbrev behind_empty : List ℕ → List ℕ
behind_empty [] = []
behind_empty (byte ∷ bytes) = cond (bytes_eq (take 4 (byte ∷ bytes)) (codes "\r\n\r\n")) (drop 4 (byte ∷ bytes)) (behind_empty bytes)

lines_end : (status : ℕ) (allow : Allow) (close : Bool) (more : List ℕ) → behind_empty (13 ∷ 10 ∷ (lines status allow close ++ more)) ≡ more
lines_end status allow close more = by_allow (status == 405)
  where
    by_close : (close : Bool) → behind_empty (13 ∷ 10 ∷ ((close_line_of close ++ codes "\r\n") ++ more)) ≡ more
    by_close true = refl
    by_close false = refl

    by_methods : (allow : Allow) (close : Bool) → behind_empty (13 ∷ 10 ∷ (((codes "Allow: " ++ methods_of allow ++ codes "\r\n") ++ close_line_of close ++ codes "\r\n") ++ more)) ≡ more
    by_methods NoAllow true = refl
    by_methods NoAllow false = refl
    by_methods Jobs true = refl
    by_methods Jobs false = refl
    by_methods Job true = refl
    by_methods Job false = refl
    by_methods Get true = refl
    by_methods Get false = refl
    by_methods File true = refl
    by_methods File false = refl

    by_allow : (is_405 : Bool) → behind_empty (13 ∷ 10 ∷ (((if is_405 then codes "Allow: " ++ methods_of allow ++ codes "\r\n" else []) ++ close_line_of close ++ codes "\r\n") ++ more)) ≡ more
    by_allow true = by_methods allow close
    by_allow false = by_close close

shape : (a b c d e number word allow close body behind : List ℕ)
    → (((((((((((a ++ b) ++ c) ++ d) ++ e) ++ number) ++ word) ++ allow) ++ close) ++ word) ++ body) ++ behind)
    ≡ ((((a ++ b) ++ c) ++ d) ++ e) ++ (number ++ (word ++ (((allow ++ close) ++ word) ++ (body ++ behind))))
shape a b c d e number word allow close body behind = simp append_assoc

-- a response's bytes, in those parts
pub parts_of : (status : ℕ) (allow : Allow) (close : Bool) (body behind : List ℕ)
    → response_of (record { status = status; allow = allow; body = body }) false close ++ behind ≡ all_of status allow close body behind
parts_of status allow close body behind = shape (codes "HTTP/1.1 ") (decimal status) (codes " ") (phrase_of status)
    (codes "\r\nContent-Type: application/json\r\nContent-Length: ") (decimal (length body)) (codes "\r\n") (allow_line_of status allow) (close_line_of close) body behind

-- ---- two ways to read

-- responses that begin the same bytes are one, and end at one place
pub same_response : (status status2 : ℕ) (allow allow2 : Allow) (close close2 : Bool) (body body2 behind behind2 : List ℕ)
    → has_phrase status ≡ true → has_phrase status2 ≡ true → length body < 2 ^ 64 → length body2 < 2 ^ 64
    → all_of status allow close body behind ≡ all_of status2 allow2 close2 body2 behind2
    → (status ≡ status2) × (body ≡ body2) × (behind ≡ behind2)
same_response status status2 allow allow2 close close2 body body2 behind behind2 phrase phrase2 small small2 is =
    let rest : List ℕ = 13 ∷ 10 ∷ (lines status allow close ++ (body ++ behind)) in
    let rest2 : List ℕ = 13 ∷ 10 ∷ (lines status2 allow2 close2 ++ (body2 ++ behind2)) in
    let seen = sym (status_read status phrase (decimal (length body) ++ rest)) ∙ (ap status_in is ∙ status_read status2 phrase2 (decimal (length body2) ++ rest2)) in
    let same : status ≡ status2 = omega (arith, seen) in
    let numbers = same_behind (front status2) (decimal (length body) ++ rest) (decimal (length body2) ++ rest2)
    (ap (λ (one : ℕ). front one ++ (decimal (length body) ++ rest)) (sym same) ∙ is) in
    let cut = up_to_return (decimal (length body)) (decimal (length body2)) (10 ∷ (lines status allow close ++ (body ++ behind)))
    (10 ∷ (lines status2 allow2 close2 ++ (body2 ++ behind2))) (decimal_has_none (length body) small) (decimal_has_none (length body2) small2) numbers in
    let long : length body ≡ length body2 = same_number (length body) (length body2) small small2 cut.0 in
    let bodies : body ++ behind ≡ body2 ++ behind2 =
    sym (lines_end status allow close (body ++ behind))
    ∙ (ap (λ bytes. behind_empty (13 ∷ bytes)) cut.1 ∙ lines_end status2 allow2 close2 (body2 ++ behind2)) in
    let last = same_parts body body2 behind behind2 long bodies in
    (same, last.0, last.1)

-- what bytes that begin with a response are, in its parts
begun : (bytes : List ℕ) (answer : AnswerData) (begins : BeginsWith bytes answer)
    → all_of answer.status begins.whole.allow begins.whole.close answer.body begins.behind ≡ bytes
begun bytes answer begins =
    sym (parts_of answer.status begins.whole.allow begins.whole.close answer.body begins.behind)
    ∙ (ap (λ response. response ++ begins.behind) (sym begins.whole.spelled) ∙ sym begins.parts)

below : (body : List ℕ) → length body ≤ 8389632 → length body < 2 ^ 64
below body few = omega (arith, few)

-- bytes begin with one response at most
pub one_answer : (bytes : List ℕ) (one other : AnswerData) → BeginsWith bytes one → BeginsWith bytes other → one ≡ other
one_answer bytes one other first second =
    let same = same_response one.status other.status first.whole.allow second.whole.allow first.whole.close second.whole.close one.body other.body
    first.behind second.behind first.whole.phrase second.whole.phrase (below one.body first.whole.few) (below other.body second.whole.few)
    (begun bytes one first ∙ sym (begun bytes other second)) in
    ap (λ (status : ℕ). record { status = status; body = one.body }) same.0 ∙ ap (λ (body : List ℕ). record { status = other.status; body = body }) same.1

pub none_behind : (more behind : List ℕ) → more ++ behind ≡ [] → behind ≡ []
none_behind [] behind is = is
none_behind (byte ∷ more) behind is = cc

-- bytes that begin with a response are not the inside of one
pub not_inside : (bytes : List ℕ) (answer : AnswerData) → BeginsWith bytes answer → IsInside bytes → ⊥
not_inside bytes answer first inside =
    let other = inside.begins.answer in
    let whole = inside.begins.whole in
    let longer : all_of answer.status first.whole.allow first.whole.close answer.body (first.behind ++ inside.begins.behind)
    ≡ all_of other.status whole.allow whole.close other.body []
    = sym (parts_of answer.status first.whole.allow first.whole.close answer.body (first.behind ++ inside.begins.behind))
    ∙ (ap (λ response. response ++ (first.behind ++ inside.begins.behind)) (sym first.whole.spelled)
    ∙ (sym (append_assoc first.response first.behind inside.begins.behind)
    ∙ (ap (λ all. all ++ inside.begins.behind) (sym first.parts)
    ∙ (whole.spelled
    ∙ (sym (append-nil (response_of (record { status = other.status; allow = whole.allow; body = other.body }) false whole.close))
    ∙ parts_of other.status whole.allow whole.close other.body []))))) in
    let same = same_response answer.status other.status first.whole.allow whole.allow first.whole.close whole.close answer.body other.body
    (first.behind ++ inside.begins.behind) [] first.whole.phrase whole.phrase (below answer.body first.whole.few) (below other.body whole.few) longer in
    inside.wanting (none_behind first.behind inside.begins.behind same.2)
