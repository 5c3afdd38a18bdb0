-- What is known of bytes by comparing them with the heads that a response may have.
use Rattle.std.proofs.Common.{◌≡◌, ◌≢◌, ℕ, zero, suc, ◌+◌, ◌-◌, ◌<◌, ◌≤◌, ◌⊎◌, inl, inr, Bool, true, false, IsTrue, List, [], ◌∷◌, ◌++◌, length, take, drop, slice_index, Option, Some, None, refl, ap, sym, ◌∙◌, subst, arith, append_assoc, append-nil, length-append, leb-true, true≢false}
use Rattle.std.specs.Prelude.{codes, decimal, nat_le, ◌==◌, if◌then◌else◌}
use Rattle.std.specs.List.{AllByRecursion}
use Rattle.std.specs.Fmt.{digits}
use Rattle.std.proofs.lemmas.Fmt.{length-decimal-le}
use Rattle.std.proofs.lemmas.List.{take-append-drop, length-take-le}
use Rattle.fts_wire.specs.Response.{phrase_of, has_phrase, has_methods, methods_of, allow_line_of, close_line_of, head_of, names_some, response_of}
use Rattle.fts_wire.specs.NextAnswers.{IsInside, BeginsResponse, BeginsWith}
use Rattle.fts_wire.specs.AnswerLook.{AnswerStands, SeesAnswer, IsNoneOf, IsNoneHeaded, IsNoneNamed, Follows, IsLengthIn, IsLeading, first_found}
use Rattle.fts_wire.specs.declared.answer_look.AnswerHead.{AnswerHead}
use Rattle.fts_wire.specs.declared.answer_look.AnswerLook.{AnswerLook}
use Rattle.fts_wire.specs.declared.answer_look.AnswerLook.TheVariants.{Short, Refused, Found}
use Rattle.fts_wire.specs.declared.response.Allow.{Allow}
use Rattle.fts_wire.specs.declared.response.Allow.TheVariants.{None as NoAllow, Jobs, Job, Get, File}
use Rattle.fts_wire.proofs.LengthDigits.{led_number, led_too_many}
use Rattle.fts_wire.proofs.ReadResponses.{by_statuses, front, lines, parts_of}

-- ---- bytes that begin alike

follows_one : (one other : ℕ) (bytes head : List ℕ) → one ≡ other → Follows bytes head → Follows (one ∷ bytes) (other ∷ head)
follows_one one other bytes head same (rest, inl is) =
    (rest, inl (ap (λ (first : ℕ). first ∷ bytes) same ∙ ap (λ list. other ∷ list) is))
follows_one one other bytes head same (rest, inr is) =
    (rest, inr (ap (λ (first : ℕ). first ∷ head) (sym same) ∙ ap (λ list. one ∷ list) is))

-- of two words that begin the same bytes one begins the other
follows : (bytes behind head more : List ℕ) → bytes ++ behind ≡ head ++ more → Follows bytes head
follows [] behind head more is = (head, inr refl)
follows (byte ∷ bytes) behind [] more is = (byte ∷ bytes, inl refl)
follows (byte ∷ bytes) behind (next ∷ head) more is =
    follows_one byte next bytes head (ap (λ list. slice_index list 0) is) (follows bytes behind head more (ap (drop 1) is))

-- bytes that hold a whole front, and what is behind it
cut_front : (bytes behind head more : List ℕ) → bytes ++ behind ≡ head ++ more → length head ≤ length bytes
    → (bytes ≡ head ++ drop (length head) bytes) × (drop (length head) bytes ++ behind ≡ more)
cut_front bytes behind [] more is long = (refl, is)
cut_front [] behind (next ∷ head) more is long = absurd (omega (arith, long))
cut_front (byte ∷ bytes) behind (next ∷ head) more is long =
    let cut = cut_front bytes behind head more (ap (drop 1) is) (omega (arith, long)) in
    (ap (λ (first : ℕ). first ∷ bytes) (ap (λ list. slice_index list 0) is) ∙ ap (λ list. next ∷ list) cut.0, cut.1)

-- words of which none begins the other
pub follows_none : (bytes head : List ℕ) → ((rest : List ℕ) → bytes ≡ head ++ rest → ⊥) → ((rest : List ℕ) → head ≡ bytes ++ rest → ⊥) → Follows bytes head → ⊥
follows_none bytes head one other (rest, inl is) = one rest is
follows_none bytes head one other (rest, inr is) = other rest is

-- ---- the parts of a head

head_shape : (a b c d e number word allow close : List ℕ)
    → (((((((((a ++ b) ++ c) ++ d) ++ e) ++ number) ++ word) ++ allow) ++ close) ++ word)
    ≡ ((((a ++ b) ++ c) ++ d) ++ e) ++ (number ++ (word ++ ((allow ++ close) ++ word)))
head_shape a b c d e number word allow close = simp append_assoc

head_parts : (status n : ℕ) (allow : Allow) (close : Bool) → head_of status n allow close ≡ front status ++ (decimal n ++ (13 ∷ 10 ∷ lines status allow close))
head_parts status n allow close = head_shape (codes "HTTP/1.1 ") (decimal status) (codes " ") (phrase_of status)
    (codes "\r\nContent-Type: application/json\r\nContent-Length: ") (decimal n) (codes "\r\n") (allow_line_of status allow) (close_line_of close)

front_long : (status : ℕ) → has_phrase status ≡ true → length (front status) ≡ 63 + length (phrase_of status)
unfolding digits
front_long status is = by_statuses (λ one. length (front one) ≡ 63 + length (phrase_of one)) status
    (200 ∷ 400 ∷ 403 ∷ 404 ∷ 405 ∷ 409 ∷ 413 ∷ 431 ∷ 500 ∷ 501 ∷ 503 ∷ 507 ∷ [])
    (refl, (refl, (refl, (refl, (refl, (refl, (refl, (refl, (refl, (refl, (refl, (refl, tt)))))))))))) is

phrase_long : (status : ℕ) → has_phrase status ≡ true → nat_le (length (phrase_of status)) 40 ≡ true
phrase_long status is = by_statuses (λ one. nat_le (length (phrase_of one)) 40 ≡ true) status
    (200 ∷ 400 ∷ 403 ∷ 404 ∷ 405 ∷ 409 ∷ 413 ∷ 431 ∷ 500 ∷ 501 ∷ 503 ∷ 507 ∷ [])
    (refl, (refl, (refl, (refl, (refl, (refl, (refl, (refl, (refl, (refl, (refl, (refl, tt)))))))))))) is

lines_long : (status : ℕ) (allow : Allow) (close : Bool) → nat_le (length (lines status allow close)) 100 ≡ true
lines_long status allow close = by_allow (status == 405)
  where
    by_close : (close : Bool) → nat_le (length (close_line_of close ++ codes "\r\n")) 100 ≡ true
    by_close true = refl
    by_close false = refl

    by_methods : (allow : Allow) (close : Bool) → nat_le (length ((codes "Allow: " ++ methods_of allow ++ codes "\r\n") ++ close_line_of close ++ codes "\r\n")) 100 ≡ true
    by_methods NoAllow true = refl
    by_methods NoAllow false = refl
    by_methods Jobs true = refl
    by_methods Jobs false = refl
    by_methods Job true = refl
    by_methods Job false = refl
    by_methods Get true = refl
    by_methods Get false = refl
    by_methods File true = refl
    by_methods File false = refl

    by_allow : (is_405 : Bool) → nat_le (length ((if is_405 then codes "Allow: " ++ methods_of allow ++ codes "\r\n" else []) ++ close_line_of close ++ codes "\r\n")) 100 ≡ true
    by_allow true = by_methods allow close
    by_allow false = by_close close

-- a head has less than 400 bytes
head_long : (status n : ℕ) (allow : Allow) (close : Bool) → has_phrase status ≡ true → n ≤ 8389632 → length (head_of status n allow close) < 400
head_long status n allow close is few =
    let digits_few : length (decimal n) ≤ 7 = length-decimal-le 7 n (omega arith) (omega (arith, few)) (omega (arith, few)) in
    let number : List ℕ = decimal n ++ (13 ∷ 10 ∷ lines status allow close) in
    omega (
      arith,
      ap length (head_parts status n allow close),
      length-append (front status) number,
      length-append (decimal n) (13 ∷ 10 ∷ lines status allow close),
      front_long status is,
      leb-true (length (phrase_of status)) 40 (phrase_long status is),
      leb-true (length (lines status allow close)) 100 (lines_long status allow close),
      digits_few,
    )

-- less than a response are no more bytes than one has
pub inside_bound : (bytes : List ℕ) → IsInside bytes → length bytes < 8390032
inside_bound bytes inside =
    let begins = inside.begins in
    let whole = begins.whole in
    omega (
      arith,
      length-append bytes begins.behind,
      ap length whole.spelled,
      length-append (head_of begins.answer.status (length begins.answer.body) whole.allow whole.close) begins.answer.body,
      head_long begins.answer.status (length begins.answer.body) whole.allow whole.close whole.phrase whole.few,
      whole.few,
    )

-- ---- less than a response

zeros : ℕ → List ℕ
zeros zero = []
zeros (suc n) = 0 ∷ zeros n

zeros_long : (n : ℕ) → length (zeros n) ≡ n
unfolding zeros
zeros_long zero = refl
zeros_long (suc n) = ap suc (zeros_long n)

-- a body of these bytes, behind its head
inside_by : (bytes behind : List ℕ) (status : ℕ) (allow : Allow) (close : Bool) (body : List ℕ) (n : ℕ) → has_phrase status ≡ true → has_methods status allow ≡ true
    → n ≤ 8389632 → length body ≡ n → bytes ++ behind ≡ head_of status n allow close ++ body → behind ≢ [] → IsInside bytes
inside_by bytes behind status allow close body n phrase methods few long is some = record {
  begins = record {
    behind = behind;
    answer = record { status = status; body = body };
    whole = record {
      allow = allow;
      close = close;
      phrase = phrase;
      methods = methods;
      few = omega (arith, long, few);
      spelled = is ∙ ap (λ (size : ℕ). head_of status size allow close ++ body) (sym long);
    };
  };
  wanting = some;
}

none_in_front : (one more : List ℕ) → one ++ more ≡ [] → one ≡ []
none_in_front [] more is = refl
none_in_front (byte ∷ one) more is = cc

-- a head that stands in bytes is no longer than they are
pub stands_within : (bytes : List ℕ) (head : AnswerHead) → AnswerStands bytes head → head.size ≤ length bytes
stands_within bytes head stands =
    omega (arith, ap length stands.parts, length-append (head_of head.status head.body stands.allow stands.close) (drop head.size bytes), stands.size)

-- and a response with it is no longer than a client reads
pub stands_few : (bytes : List ℕ) (head : AnswerHead) → AnswerStands bytes head → head.size + head.body < 8390032
stands_few bytes head stands =
    omega (arith, head_long head.status head.body stands.allow stands.close stands.phrase stands.few, stands.size, stands.few)

-- less than a head
pub short_of_head : (bytes rest : List ℕ) (status n : ℕ) (allow : Allow) (close : Bool) → has_phrase status ≡ true → has_methods status allow ≡ true
    → n ≤ 8389632 → head_of status n allow close ≡ bytes ++ rest → rest ≢ [] → IsInside bytes
short_of_head bytes rest status n allow close phrase methods few is some =
    inside_by bytes (rest ++ zeros n) status allow close (zeros n) n phrase methods few (zeros_long n)
    (sym (append_assoc bytes rest (zeros n)) ∙ ap (λ list. list ++ zeros n) (sym is)) (λ none. some (none_in_front rest (zeros n) none))

-- a head, and less than its body
pub short_of_body : (bytes : List ℕ) (head : AnswerHead) → AnswerStands bytes head → length bytes < head.size + head.body → IsInside bytes
short_of_body bytes head stands short =
    let rest : List ℕ = drop head.size bytes in
    let spelled : List ℕ = head_of head.status head.body stands.allow stands.close in
    let all : length bytes ≡ head.size + length rest = ap length stands.parts ∙ (length-append spelled rest ∙ ap (λ n. n + length rest) stands.size) in
    let missing : ℕ = head.body - length rest in
    let long : length (rest ++ zeros missing) ≡ head.body = omega (arith, length-append rest (zeros missing), zeros_long missing, all, short) in
    inside_by bytes (zeros missing) head.status stands.allow stands.close (rest ++ zeros missing) head.body stands.phrase stands.methods stands.few long
    (ap (λ list. list ++ zeros missing) stands.parts ∙ append_assoc spelled rest (zeros missing))
    (λ none. omega (arith, all, short, ap length none, zeros_long missing))

-- a head, and its body
pub whole_response : (bytes : List ℕ) (head : AnswerHead) → AnswerStands bytes head → head.size + head.body ≤ length bytes
    → BeginsWith bytes (record { status = head.status; body = take head.body (drop head.size bytes) })
whole_response bytes head stands within =
    let rest : List ℕ = drop head.size bytes in
    let body : List ℕ = take head.body rest in
    let spelled : List ℕ = head_of head.status head.body stands.allow stands.close in
    let all : length bytes ≡ head.size + length rest = ap length stands.parts ∙ (length-append spelled rest ∙ ap (λ n. n + length rest) stands.size) in
    let long : length body ≡ head.body = body_long rest head.body (omega (arith, all, within)) in
    record {
      response = spelled ++ body;
      behind = drop head.body rest;
      parts = stands.parts ∙ (ap (λ list. spelled ++ list) (sym (take-append-drop head.body rest)) ∙ sym (append_assoc spelled body (drop head.body rest)));
      whole = record {
        allow = stands.allow;
        close = stands.close;
        phrase = stands.phrase;
        methods = stands.methods;
        few = omega (arith, long, stands.few);
        spelled = ap (λ (size : ℕ). head_of head.status size stands.allow stands.close ++ body) (sym long);
      };
    }
  where
    body_long : (rest : List ℕ) (n : ℕ) → n ≤ length rest → length (take n rest) ≡ n
    body_long rest n few = length-take-le n rest few

-- ---- what a comparison says

-- bytes begin with a word, or a word with the bytes
pub stands_by : (bytes : List ℕ) (status n size : ℕ) (allow : Allow) (close : Bool) (head : List ℕ) → has_phrase status ≡ true → has_methods status allow ≡ true
    → n ≤ 8389632 → head ≡ head_of status n allow close → size ≡ length head → bytes ≡ head ++ drop (length head) bytes
    → AnswerStands bytes (record { status = status; size = size; body = n })
stands_by bytes status n size allow close head phrase methods few same long is = record {
  allow = allow;
  close = close;
  phrase = phrase;
  methods = methods;
  few = few;
  size = ap length (sym same) ∙ sym long;
  parts = is ∙ (ap (λ list. list ++ drop (length head) bytes) same ∙ ap (λ (count : ℕ). head_of status n allow close ++ drop count bytes) (sym long));
}

-- ---- one look behind another

pub sees_so : (bytes : List ℕ) (No More : Type 0) (look : AnswerLook) → (No → More) → SeesAnswer bytes No look → SeesAnswer bytes More look
sees_so bytes No More Short so sees = sees
sees_so bytes No More Refused so sees = so sees
sees_so bytes No More (Found head) so sees = sees

pub sees_either : (bytes : List ℕ) (No More : Type 0) (one other : AnswerLook) → SeesAnswer bytes No one → SeesAnswer bytes More other
    → SeesAnswer bytes (No × More) (first_found one other)
sees_either bytes No More Short other sees sees_too = sees
sees_either bytes No More Refused other sees sees_too = sees_so bytes More (No × More) other (λ more. (sees, more)) sees_too
sees_either bytes No More (Found head) other sees sees_too = sees

-- ---- the length of the body

-- bytes that begin a response follow its front, and then the digits of its length
begins_front : (bytes behind : List ℕ) (status : ℕ) (allow : Allow) (close : Bool) (body : List ℕ)
    → bytes ++ behind ≡ response_of (record { status = status; allow = allow; body = body }) false close
    → bytes ++ behind ≡ front status ++ (decimal (length body) ++ (13 ∷ 10 ∷ (lines status allow close ++ (body ++ []))))
begins_front bytes behind status allow close body is =
    is ∙ (sym (append-nil (response_of (record { status = status; allow = allow; body = body }) false close)) ∙ parts_of status allow close body [])

-- bytes that end before the length follow each head of that status
pub length_unseen : (bytes : List ℕ) (status : ℕ) → has_phrase status ≡ true → length bytes < 63 + length (phrase_of status) → IsLengthIn bytes status (Some 0)
length_unseen bytes status phrase short = (
  omega arith,
  λ allow close body behind few is.
      let begins = begins_front bytes behind status allow close body is in
      by_front allow close (follows bytes behind (front status) (decimal (length body) ++ (13 ∷ 10 ∷ (lines status allow close ++ (body ++ [])))) begins),
)
  where
    by_front : (allow : Allow) (close : Bool) → Follows bytes (front status) → Follows bytes (head_of status 0 allow close)
    by_front allow close (rest, inl is) = absurd (omega (arith, ap length is, length-append (front status) rest, front_long status phrase, short))
    by_front allow close (rest, inr is) =
        let tail : List ℕ = decimal 0 ++ (13 ∷ 10 ∷ lines status allow close) in
        (rest ++ tail, inr (head_parts status 0 allow close ∙ (ap (λ list. list ++ tail) is ∙ append_assoc bytes rest tail)))

-- the length that the digits at hand write is that of each response that the bytes begin, or follows a head with it
pub length_seen : (bytes : List ℕ) (status before : ℕ) (found : Option ℕ) → has_phrase status ≡ true → before ≡ 63 + length (phrase_of status) → before ≤ length bytes
    → IsLeading (drop before bytes) found → IsLengthIn bytes status found
length_seen bytes status before None phrase at long leads = λ allow close methods body behind few is.
    let more : List ℕ = 10 ∷ (lines status allow close ++ (body ++ [])) in
    let same : before ≡ length (front status) = at ∙ sym (front_long status phrase) in
    let cut = cut_front bytes behind (front status) (decimal (length body) ++ 13 ∷ more) (begins_front bytes behind status allow close body is)
    (subst (λ n. n ≤ length bytes) same long) in
    led_too_many (drop before bytes) behind more (length body) few leads (ap (λ (n : ℕ). drop n bytes ++ behind) same ∙ cut.1)
length_seen bytes status before (Some n) phrase at long leads = (
  leads.few,
  λ allow close body behind few is.
      let more : List ℕ = 10 ∷ (lines status allow close ++ (body ++ [])) in
      let same : before ≡ length (front status) = at ∙ sym (front_long status phrase) in
      let begins = begins_front bytes behind status allow close body is in
      let cut = cut_front bytes behind (front status) (decimal (length body) ++ 13 ∷ more) begins (subst (λ n. n ≤ length bytes) same long) in
      let whole : bytes ≡ front status ++ drop before bytes = cut.0 ∙ ap (λ (m : ℕ). front status ++ drop m bytes) (sym same) in
      by_number allow close body behind is whole
      (led_number (drop before bytes) behind more (length body) n few leads (ap (λ (m : ℕ). drop m bytes ++ behind) same ∙ cut.1)),
)
  where
    by_number : (allow : Allow) (close : Bool) (body behind : List ℕ)
        → bytes ++ behind ≡ response_of (record { status = status; allow = allow; body = body }) false close
        → bytes ≡ front status ++ drop before bytes
        → (n ≡ length body) ⊎ ((rest : List ℕ) × (decimal n ≡ drop before bytes ++ rest)) → Follows bytes (head_of status n allow close)
    by_number allow close body behind is whole (inl same) =
        follows bytes behind (head_of status n allow close) body (is ∙ ap (λ (m : ℕ). head_of status m allow close ++ body) (sym same))
    by_number allow close body behind is whole (inr (rest, same)) =
        let tail : List ℕ = 13 ∷ 10 ∷ lines status allow close in (
          rest ++ tail,
          inr (head_parts status n allow close
              ∙ (ap (λ list. front status ++ (list ++ tail)) same
              ∙ (ap (λ list. front status ++ list) (append_assoc (drop before bytes) rest tail)
              ∙ (sym (append_assoc (front status) (drop before bytes) (rest ++ tail)) ∙ ap (λ list. list ++ (rest ++ tail)) (sym whole))))),
        )

-- ---- one status

-- whether or not the connection ends
pub sees_closes : (bytes : List ℕ) (status n : ℕ) (allow : Allow) (stays ends : AnswerLook)
    → SeesAnswer bytes (Follows bytes (head_of status n allow false) → ⊥) stays → SeesAnswer bytes (Follows bytes (head_of status n allow true) → ⊥) ends
    → SeesAnswer bytes (IsNoneHeaded bytes status n allow) (first_found stays ends)
sees_closes bytes status n allow stays ends sees sees_too =
    sees_so bytes ((Follows bytes (head_of status n allow false) → ⊥) × (Follows bytes (head_of status n allow true) → ⊥)) (IsNoneHeaded bytes status n allow)
    (first_found stays ends) by_close
    (sees_either bytes (Follows bytes (head_of status n allow false) → ⊥) (Follows bytes (head_of status n allow true) → ⊥) stays ends sees sees_too)
  where
    by_close : (Follows bytes (head_of status n allow false) → ⊥) × (Follows bytes (head_of status n allow true) → ⊥) → IsNoneHeaded bytes status n allow
    by_close both false so = both.0 so
    by_close both true so = both.1 so

-- the head of a status that names no methods
pub none_unnamed : (bytes : List ℕ) (status n : ℕ) → (status == 405) ≡ false → IsLengthIn bytes status (Some n)
    → IsNoneHeaded bytes status n NoAllow → IsNoneOf bytes status
none_unnamed bytes status n other long none = λ allow close methods body behind few is.
    none close (long.1 NoAllow close body behind few (is ∙ same_lines allow close body))
  where
    same_lines : (allow : Allow) (close : Bool) (body : List ℕ)
        → response_of (record { status = status; allow = allow; body = body }) false close ≡ response_of (record { status = status; allow = NoAllow; body = body }) false close
    same_lines allow close body = rw other refl

-- the heads of a refusal of a method
pub sees_names : (bytes : List ℕ) (n : ℕ) (jobs job get file : AnswerLook)
    → SeesAnswer bytes (IsNoneHeaded bytes 405 n Jobs) jobs → SeesAnswer bytes (IsNoneHeaded bytes 405 n Job) job
    → SeesAnswer bytes (IsNoneHeaded bytes 405 n Get) get → SeesAnswer bytes (IsNoneHeaded bytes 405 n File) file
    → SeesAnswer bytes (IsNoneNamed bytes n) (first_found (first_found (first_found jobs job) get) file)
sees_names bytes n jobs job get file one two three four =
    let Jobs_none : Type 0 = IsNoneHeaded bytes 405 n Jobs in
    let Job_none : Type 0 = IsNoneHeaded bytes 405 n Job in
    let Get_none : Type 0 = IsNoneHeaded bytes 405 n Get in
    let File_none : Type 0 = IsNoneHeaded bytes 405 n File in
    sees_so bytes (((Jobs_none × Job_none) × Get_none) × File_none) (IsNoneNamed bytes n) (first_found (first_found (first_found jobs job) get) file)
    (λ none. record { jobs = none.0.0.0; job = none.0.0.1; get = none.0.1; file = none.1 })
    (sees_either bytes ((Jobs_none × Job_none) × Get_none) File_none (first_found (first_found jobs job) get) file
    (sees_either bytes (Jobs_none × Job_none) Get_none (first_found jobs job) get (sees_either bytes Jobs_none Job_none jobs job one two) three) four)

none_named : (bytes : List ℕ) (status n : ℕ) → status ≡ 405 → IsLengthIn bytes status (Some n) → IsNoneNamed bytes n → IsNoneOf bytes status
none_named bytes status n same long none = λ allow close methods body behind few is.
    by_allow allow close (subst (λ (one : ℕ). IsTrue (has_methods one allow)) same methods)
    (subst (λ (one : ℕ). Follows bytes (head_of one n allow close)) same (long.1 allow close body behind few is))
  where
    by_allow : (allow : Allow) (close : Bool) → IsTrue (names_some allow) → Follows bytes (head_of 405 n allow close) → ⊥
    by_allow NoAllow close methods so = absurd (true≢false (sym methods))
    by_allow Jobs close methods so = none.jobs close so
    by_allow Job close methods so = none.job close so
    by_allow Get close methods so = none.get close so
    by_allow File close methods so = none.file close so

pub sees_named : (bytes : List ℕ) (status n : ℕ) (look : AnswerLook) → status ≡ 405 → IsLengthIn bytes status (Some n)
    → SeesAnswer bytes (IsNoneNamed bytes n) look → SeesAnswer bytes (IsNoneOf bytes status) look
sees_named bytes status n look same long sees =
    sees_so bytes (IsNoneNamed bytes n) (IsNoneOf bytes status) look (none_named bytes status n same long) sees

pub sees_unnamed : (bytes : List ℕ) (status n : ℕ) (look : AnswerLook) → (status == 405) ≡ false → IsLengthIn bytes status (Some n)
    → SeesAnswer bytes (IsNoneHeaded bytes status n NoAllow) look → SeesAnswer bytes (IsNoneOf bytes status) look
sees_unnamed bytes status n look other long sees =
    sees_so bytes (IsNoneHeaded bytes status n NoAllow) (IsNoneOf bytes status) look (none_unnamed bytes status n other long) sees

-- bytes that begin a response of none of the statuses begin none
pub none_at_all : (bytes : List ℕ) → AllByRecursion (IsNoneOf bytes) (200 ∷ 400 ∷ 403 ∷ 404 ∷ 405 ∷ 409 ∷ 413 ∷ 431 ∷ 500 ∷ 501 ∷ 503 ∷ 507 ∷ []) → BeginsResponse bytes → ⊥
none_at_all bytes each begins =
    let whole = begins.whole in
    by_statuses (IsNoneOf bytes) begins.answer.status (200 ∷ 400 ∷ 403 ∷ 404 ∷ 405 ∷ 409 ∷ 413 ∷ 431 ∷ 500 ∷ 501 ∷ 503 ∷ 507 ∷ []) each whole.phrase
    whole.allow whole.close whole.methods begins.answer.body begins.behind whole.few whole.spelled
