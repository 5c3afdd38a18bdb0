-- The texts that the names of a path took: what the router tells of a match is the plain table's route.
use Rattle.std.proofs.Common.{◌≡◌, ℕ, ◌<◌, ◌≤◌, ◌+◌, ◌-◌, List, [], ◌∷◌, ◌++◌, length, drop, get_or, Option, Some, None, Bool, true, false, cond, refl, sym, ap, ◌∙◌, arith, ◌==◌, ltb, leb, ◌&&◌, append-nil, append_assoc, subst}
use Rattle.std.specs.Prelude.{bytes_eq, codes, option_map, IsUtf8}
use Rattle.std.specs.Cmp.Lexicographic.{bytes_decides}
use Rattle.std.proofs.Math.Seq.{drop-append_seam, drop-append-add, take-append_seam, take-length, get_or-append_seam}
use Rattle.std.proofs.lemmas.List.{length-append}
use Rattle.std.proofs.lemmas.Bool.Decides.{nat_tests}
use Rattle.std.proofs.lemmas.Str.{IsUtf8-past_char, encode_ascii, IsUtf8-take, IsUtf8-drop, IsCharBoundary-before_ascii}
use lib.Utf8.{encode}
use Rattle.matchit.specs.Params.{walk, wild_from, wild_stop, part_of, after_token, named as named_in, AllText}
use Rattle.matchit.specs.Seek.{first, segment}
use Rattle.fts_routes.specs.Routes.{Route, route_of, route_by, route_of_names, route_of_jobs, route_of_job, route_of_files, route_of_config, route_of_ban, route_of_journal, Jobs as ToJobs, Job as ToJob, Files as ToFiles, File as ToFile, Links as ToLinks, Endpoints as ToEndpoints, Shares as ToShares, Bans as ToBans, JournalEntry as ToEntry}
use Rattle.fts_routes.specs.RouteRows.{table, row_of, route_at}
use Rattle.fts_routes.proofs.Walks.{IsWord, behind, segment_slash}
use Rattle.fts_routes.proofs.Tabled.{Found, AreWords, AreBytes, IsCut, cut, tabled}

-- a route's path
abbrev spelled : Route → List ℕ
spelled ToJobs = codes "/jobs"
spelled (ToJob id) = codes "/jobs/" ++ id
spelled (ToFiles id) = codes "/jobs/" ++ (id ++ codes "/files")
spelled (ToFile id file) = codes "/jobs/" ++ (id ++ (codes "/files/" ++ file))
spelled ToLinks = codes "/config/links"
spelled ToEndpoints = codes "/config/se"
spelled ToShares = codes "/config/activity_shares"
spelled ToBans = codes "/ban/se"
spelled (ToEntry number) = codes "/journal/" ++ number

-- a route's names are words
abbrev HasWords : Route → Type 0
HasWords ToJobs = Unit {0}
HasWords (ToJob id) = IsWord id
HasWords (ToFiles id) = IsWord id
HasWords (ToFile id file) = IsWord id
HasWords ToLinks = Unit {0}
HasWords ToEndpoints = Unit {0}
HasWords ToShares = Unit {0}
HasWords ToBans = Unit {0}
HasWords (ToEntry number) = IsWord number

-- the path is that of its route
abbrev Spells : List ℕ → Option Route → Type 0
Spells path None = Unit {0}
Spells path (Some route) = (path ≡ spelled route) × HasWords route

-- behind /jobs/{id}/files
spells_files : (id : List ℕ) (more : List (List ℕ)) → IsWord id → Spells (codes "/jobs/" ++ (id ++ (codes "/files" ++ behind more))) (route_of_files id more)
spells_files id [] i =
    elim (bytes_eq id []) as (λ empty. Spells (codes "/jobs/" ++ (id ++ codes "/files")) (cond empty None (Some (ToFiles id)))) [ true ↦ tt | false ↦ (refl, i) ]
spells_files id (file ∷ []) i = by (bytes_eq id []) (bytes_eq file [])
  where
    by : (no_id no_file : Bool) → Spells (codes "/jobs/" ++ (id ++ (codes "/files" ++ behind (file ∷ [])))) (cond no_id None (cond no_file None (Some (ToFile id file))))
    by true no_file = tt
    by false true = tt
    by false false = (ap (λ name. codes "/jobs/" ++ (id ++ (codes "/files/" ++ name))) (append-nil file), i)
spells_files id (file ∷ next ∷ more) i = tt

-- behind /jobs/{id}
spells_job : (id : List ℕ) (more : List (List ℕ)) → IsWord id → Spells (codes "/jobs/" ++ (id ++ behind more)) (route_of_job id more)
spells_job id [] i =
    elim (bytes_eq id []) as (λ empty. Spells (codes "/jobs/" ++ (id ++ [])) (cond empty None (Some (ToJob id)))) [
      | true ↦ tt
      | false ↦ (ap (λ name. codes "/jobs/" ++ name) (append-nil id), i)
    ]
spells_job id (word ∷ more) i = by (bytes_eq word (codes "files")) refl (spells_files id more i)
  where
    by : (files : Bool) → bytes_eq word (codes "files") ≡ files → Spells (codes "/jobs/" ++ (id ++ (codes "/files" ++ behind more))) (route_of_files id more)
        → Spells (codes "/jobs/" ++ (id ++ behind (word ∷ more))) (cond files (route_of_files id more) None)
    by true e below = let is : word ≡ codes "files" = (bytes_decides word (codes "files")).0 e in rw is below
    by false e below = tt

-- behind /jobs
spells_jobs : (more : List (List ℕ)) → AreWords more → Spells (codes "/jobs" ++ behind more) (route_of_jobs more)
spells_jobs [] i = (refl, tt)
spells_jobs (id ∷ more) i = spells_job id more i.0

-- behind /config
spells_config : (more : List (List ℕ)) → Spells (codes "/config" ++ behind more) (route_of_config more)
spells_config [] = tt
spells_config (word ∷ []) = by (bytes_eq word (codes "links")) refl (bytes_eq word (codes "se")) refl (bytes_eq word (codes "activity_shares")) refl
  where
    by : (links : Bool) → bytes_eq word (codes "links") ≡ links → (se : Bool) → bytes_eq word (codes "se") ≡ se → (shares : Bool) → bytes_eq word (codes "activity_shares") ≡ shares
        → Spells (codes "/config" ++ behind (word ∷ [])) (cond links (Some ToLinks) (cond se (Some ToEndpoints) (cond shares (Some ToShares) None)))
    by true p se q shares r = let is : word ≡ codes "links" = (bytes_decides word (codes "links")).0 p in (rw is refl, tt)
    by false p true q shares r = let is : word ≡ codes "se" = (bytes_decides word (codes "se")).0 q in (rw is refl, tt)
    by false p false q true r = let is : word ≡ codes "activity_shares" = (bytes_decides word (codes "activity_shares")).0 r in (rw is refl, tt)
    by false p false q false r = tt
spells_config (word ∷ next ∷ more) = tt

-- behind /ban
spells_ban : (more : List (List ℕ)) → Spells (codes "/ban" ++ behind more) (route_of_ban more)
spells_ban [] = tt
spells_ban (word ∷ []) = by (bytes_eq word (codes "se")) refl
  where
    by : (se : Bool) → bytes_eq word (codes "se") ≡ se → Spells (codes "/ban" ++ behind (word ∷ [])) (cond se (Some ToBans) None)
    by true p = let is : word ≡ codes "se" = (bytes_decides word (codes "se")).0 p in (rw is refl, tt)
    by false p = tt
spells_ban (word ∷ next ∷ more) = tt

-- behind /journal
spells_journal : (more : List (List ℕ)) → AreWords more → Spells (codes "/journal" ++ behind more) (route_of_journal more)
spells_journal [] i = tt
spells_journal (number ∷ []) i =
    elim (bytes_eq number []) as (λ empty. Spells (codes "/journal/" ++ (number ++ [])) (cond empty None (Some (ToEntry number)))) [
      | true ↦ tt
      | false ↦ (ap (λ name. codes "/journal/" ++ name) (append-nil number), i.0)
    ]
spells_journal (number ∷ next ∷ more) i = tt

-- behind the first slash
spells_names : (names : List (List ℕ)) → AreWords names → Spells (behind names) (route_of_names names)
spells_names [] i = tt
spells_names (word ∷ more) i = by (bytes_eq word (codes "jobs")) refl (bytes_eq word (codes "config")) refl (bytes_eq word (codes "ban")) refl (bytes_eq word (codes "journal")) refl
  where
    by : (jobs : Bool) → bytes_eq word (codes "jobs") ≡ jobs → (config : Bool) → bytes_eq word (codes "config") ≡ config
        → (ban : Bool) → bytes_eq word (codes "ban") ≡ ban → (journal : Bool) → bytes_eq word (codes "journal") ≡ journal
        → Spells (behind (word ∷ more)) (cond jobs (route_of_jobs more) (cond config (route_of_config more) (cond ban (route_of_ban more) (cond journal (route_of_journal more) None))))
    by true p config q ban r journal s = let is : word ≡ codes "jobs" = (bytes_decides word (codes "jobs")).0 p in rw is (spells_jobs more i.1)
    by false p true q ban r journal s = let is : word ≡ codes "config" = (bytes_decides word (codes "config")).0 q in rw is (spells_config more)
    by false p false q true r journal s = let is : word ≡ codes "ban" = (bytes_decides word (codes "ban")).0 r in rw is (spells_ban more)
    by false p false q false r true s = let is : word ≡ codes "journal" = (bytes_decides word (codes "journal")).0 s in rw is (spells_journal more i.1)
    by false p false q false r false s = tt

-- by the segments of a path
spells_root : (root : List ℕ) (names : List (List ℕ)) → AreWords names → Spells (root ++ behind names) (route_by (root ∷ names))
spells_root root names i = by (bytes_eq root []) refl
  where
    by : (empty : Bool) → bytes_eq root [] ≡ empty → Spells (root ++ behind names) (cond empty (route_of_names names) None)
    by true e = let is : root ≡ [] = (bytes_decides root []).0 e in rw is (spells_names names i)
    by false e = tt

-- by the path itself, where it is cut
spells_cut : (path root : List ℕ) (more : List (List ℕ)) → IsCut path root more → Spells path (route_of path)
spells_cut path root more c = rw c.parts (subst (λ p. Spells p (route_by (root ∷ more))) (sym c.whole) (spells_root root more c.words))

-- a path that has a route is spelled as that route
pub spells : (path : List ℕ) → AreBytes path → Spells path (route_of path)
spells path a = let c = cut path a in spells_cut path c.0 c.1.0 c.1.1

-- bytes, of which none is a name's token
abbrev are_tokens : List ℕ → Bool
are_tokens [] = true
are_tokens (b ∷ w) = ltb b 256 && are_tokens w

-- the test of a list is that of its first byte and of the others
token_below : (b : ℕ) (rest : Bool) → (ltb b 256 && rest) ≡ true → (ltb b 256 ≡ true) × (rest ≡ true)
token_below b rest e = (grind (arith, nat_tests), grind (arith, nat_tests))

-- behind such bytes stands the next name, as far in the path as in the pattern
wild_past : (w rest : List ℕ) (len token at : ℕ) → are_tokens w ≡ true → at + length w ≤ len → wild_from (w ++ 256 ∷ rest) len token at ≡ (token + length w, at + length w)
wild_past [] rest len token at e l = rw (plus_none token, plus_none at) refl
  where
    plus_none : (n : ℕ) → n + 0 ≡ n
    plus_none n = omega arith
wild_past (b ∷ w) rest len token at e l =
    let byte = token_below b (are_tokens w) e in
    let inside : ltb at len ≡ true = grind (arith, nat_tests) in
    let token_on : token + length (b ∷ w) ≡ (token + 1) + length w = omega arith in
    let at_on : at + length (b ∷ w) ≡ (at + 1) + length w = omega arith in
    let fits : (at + 1) + length w ≤ len = omega arith in
    rw (byte.0, inside, token_on, at_on) (wild_past w rest len (token + 1) (at + 1) byte.1 fits)

-- the part from a place to the end is what stands behind it
part_end : (front name : List ℕ) (n : ℕ) → length front ≡ n → part_of (front ++ name) n (length (front ++ name)) ≡ name
part_end front name n e =
    let within : leb n (length (front ++ name)) ≡ true = grind (arith, nat_tests, length-append front name) in
    let whole : leb (length (front ++ name)) (length (front ++ name)) ≡ true = grind (arith, nat_tests) in
    let size : length (front ++ name) - n ≡ length name = omega (arith, length-append front name) in
    rw (within, whole, size, ← e, drop-append_seam front name) (take-length name)

-- the part between two places is what stands there
part_between : (front name rest : List ℕ) (n m : ℕ) → length front ≡ n → n + length name ≡ m → part_of (front ++ (name ++ rest)) n m ≡ name
part_between front name rest n m e f =
    let total : length (front ++ (name ++ rest)) ≡ n + (length name + length rest) = omega (arith, length-append front (name ++ rest), length-append name rest) in
    let within : leb n m ≡ true = grind (arith, nat_tests) in
    let whole : leb m (length (front ++ (name ++ rest))) ≡ true = grind (arith, nat_tests) in
    let size : m - n ≡ length name = omega arith in
    rw (within, whole, size, ← e, drop-append_seam front (name ++ rest)) (take-append_seam name rest)

-- each name with the text that it took
abbrev taken : Route → List (List ℕ × List ℕ)
taken (ToJob id) = (codes "id", id) ∷ []
taken (ToFiles id) = (codes "id", id) ∷ []
taken (ToFile id file) = (codes "id", id) ∷ (codes "file", file) ∷ []
taken (ToEntry number) = (codes "n", number) ∷ []
taken _ = []

-- a router's row and a path, as a match tells them
abbrev told : Found → List ℕ → List (List ℕ × List ℕ)
told found path = walk found.pattern found.text path found.names 0 0

-- a name took the part between its place and its stop
walk_next : (pattern text path : List ℕ) (names : List (ℕ × ℕ)) (start end token at next place stop : ℕ)
    → wild_from (drop token pattern) (length path) token at ≡ (next, place) → wild_stop pattern next path place ≡ stop
    → walk pattern text path ((start, end) ∷ names) token at ≡ (part_of text start end, part_of path place stop) ∷ walk pattern text path names (after_token next) stop
walk_next pattern text path names start end token at next place stop p q = rw (p, q) refl

-- a third part that fails is enough
all_false : (a b c : Bool) → c ≡ false → (a && b && c) ≡ false
all_false true true c e = e
all_false true false c e = refl
all_false false true c e = refl
all_false false false c e = refl

-- the name at a pattern's end takes what is left
stop_last : (pattern path : List ℕ) (token at : ℕ) → length pattern ≤ token + 1 → wild_stop pattern token path at ≡ length path
stop_last pattern path token at l =
    let e : ltb (token + 1) (length pattern) ≡ false = grind (arith, nat_tests) in
    ap (λ goes. cond goes (at + length (segment (drop at path)) - length (segment (drop (token + 1) pattern))) (length path)) (all_false (ltb token (length pattern)) (get_or pattern token 0 == 256) (ltb (token + 1) (length pattern)) e)

-- so it takes all behind the bytes that stand before it
walk_last : (pattern text path w front name : List ℕ) (start end token at : ℕ) → are_tokens w ≡ true
    → drop token pattern ≡ w ++ 256 ∷ [] → length pattern ≡ token + length w + 1 → path ≡ front ++ name → length front ≡ at + length w
    → walk pattern text path ((start, end) ∷ []) token at ≡ (part_of text start end, name) ∷ []
walk_last pattern text path w front name start end token at e rest long whole place =
    let fits : at + length w ≤ length path = omega (arith, ap length whole, length-append front name) in
    let past : wild_from (drop token pattern) (length path) token at ≡ (token + length w, at + length w) =
    ap (λ left. wild_from left (length path) token at) rest ∙ wild_past w [] (length path) token at e fits
    in
    let short : length pattern ≤ token + length w + 1 = omega arith in
    walk_next pattern text path [] start end token at (token + length w) (at + length w) (length path) past (stop_last pattern path (token + length w) (at + length w) short)
    ∙ ap (λ part. (part_of text start end, part) ∷ []) (ap (λ p. part_of p (at + length w) (length p)) whole ∙ part_end front name (at + length w) place)

-- a name before a slash takes what stands before it
walk_first : (w after text name rest : List ℕ) (names : List (ℕ × ℕ)) (start end : ℕ) → are_tokens w ≡ true → IsWord name
    → walk (w ++ 256 ∷ 47 ∷ after) text (w ++ (name ++ 47 ∷ rest)) ((start, end) ∷ names) 0 0
    ≡ (part_of text start end, name) ∷ walk (w ++ 256 ∷ 47 ∷ after) text (w ++ (name ++ 47 ∷ rest)) names (after_token (0 + length w)) (length w + length name)
walk_first w after text name rest names start end e i =
    let pattern = w ++ 256 ∷ 47 ∷ after in
    let path = w ++ (name ++ 47 ∷ rest) in
    let none : 0 + length w ≡ length w = omega arith in
    let fits : 0 + length w ≤ length path = omega (arith, length-append w (name ++ 47 ∷ rest)) in
    let past : wild_from pattern (length path) 0 0 ≡ (0 + length w, 0 + length w) = wild_past w (47 ∷ after) (length path) 0 0 e fits in
    let long : length pattern ≡ length w + (2 + length after) = omega (arith, length-append w (256 ∷ 47 ∷ after)) in
    let here : ltb (0 + length w) (length pattern) ≡ true = grind (arith, nat_tests) in
    let more : ltb (0 + length w + 1) (length pattern) ≡ true = grind (arith, nat_tests) in
    let token : get_or pattern (0 + length w) 0 ≡ 256 = rw none (get_or-append_seam w 256 (47 ∷ after) 0) in
    let left : drop (0 + length w) path ≡ name ++ 47 ∷ rest = rw none (drop-append_seam w (name ++ 47 ∷ rest)) in
    let behind_name : drop (0 + length w + 1) pattern ≡ 47 ∷ after = rw none (drop-append-add w (256 ∷ 47 ∷ after) 1) in
    let took : length (segment (drop (0 + length w) path)) ≡ length name + 1 = ap (λ p. length (segment p)) left ∙ (ap length (segment_slash name rest i) ∙ length-append name (47 ∷ [])) in
    let kept : length (segment (drop (0 + length w + 1) pattern)) ≡ 1 = ap (λ p. length (segment p)) behind_name in
    let place : 0 + length w + length (segment (drop (0 + length w) path)) - length (segment (drop (0 + length w + 1) pattern)) ≡ length w + length name = omega arith in
    let stop : wild_stop pattern (0 + length w) path (0 + length w) ≡ length w + length name = rw (here, token, more) place in
    walk_next pattern text path names start end 0 0 (0 + length w) (0 + length w) (length w + length name) past stop
    ∙ ap (λ part. (part_of text start end, part) ∷ walk pattern text path names (after_token (0 + length w)) (length w + length name))
    (part_between w name (47 ∷ rest) (0 + length w) (length w + length name) (sym none) (ap (λ n. n + length name) none))

-- what a match tells of a route's path
pub told_route : (route : Route) → HasWords route → told (row_of route) (spelled route) ≡ taken route
told_route ToJobs i = refl
told_route (ToJob id) i =
    walk_last (codes "/jobs/" ++ 256 ∷ []) (codes "/jobs/{id}") (codes "/jobs/" ++ id) (codes "/jobs/") (codes "/jobs/") id 7 9 0 0 refl refl refl refl refl
told_route (ToFiles id) i = walk_first (codes "/jobs/") (codes "files") (codes "/jobs/{id}/files") id (codes "files") [] 7 9 refl i
told_route (ToFile id file) i =
    let front = codes "/jobs/" ++ (id ++ codes "/files/") in
    let whole : codes "/jobs/" ++ (id ++ (codes "/files/" ++ file)) ≡ front ++ file = ap (λ rest. codes "/jobs/" ++ rest) (sym (append_assoc id (codes "/files/") file)) in
    let place : length front ≡ (6 + length id) + 7 = omega (arith, length-append (codes "/jobs/") (id ++ codes "/files/"), length-append id (codes "/files/")) in
    walk_first (codes "/jobs/") (codes "files/" ++ 256 ∷ []) (codes "/jobs/{id}/files/{file}") id (codes "files/" ++ file) ((18, 22) ∷ []) 7 9 refl i
    ∙ ap (λ rest. (codes "id", id) ∷ rest)
    (walk_last (codes "/jobs/" ++ 256 ∷ (codes "/files/" ++ 256 ∷ [])) (codes "/jobs/{id}/files/{file}") (codes "/jobs/" ++ (id ++ (codes "/files/" ++ file))) (codes "/files/") front file 18 22 7 (6 + length id) refl refl refl whole place)
told_route ToLinks i = refl
told_route ToEndpoints i = refl
told_route ToShares i = refl
told_route ToBans i = refl
told_route (ToEntry number) i =
    walk_last (codes "/journal/" ++ 256 ∷ []) (codes "/journal/{n}") (codes "/journal/" ++ number) (codes "/journal/") (codes "/journal/") number 10 11 0 0 refl refl refl refl refl

-- bytes of one letter each
abbrev all_ascii : List ℕ → Bool
all_ascii [] = true
all_ascii (b ∷ w) = ltb b 128 && all_ascii w

-- the test of a list is that of its first byte and of the others
ascii_first : (b : ℕ) (rest : Bool) → (ltb b 128 && rest) ≡ true → (b < 128) × (rest ≡ true)
ascii_first b rest e = (grind (arith, nat_tests), grind (arith, nat_tests))

-- the name of an id is a text
text_id : IsUtf8 (codes "id")
unfolding encode
text_id = (codes "id", (refl, refl))

-- the name of a file is a text
text_file : IsUtf8 (codes "file")
unfolding encode
text_file = (codes "file", (refl, refl))

-- the name of a number is a text
text_n : IsUtf8 (codes "n")
unfolding encode
text_n = (codes "n", (refl, refl))

-- the parts of a text between bytes of one letter each are texts
utf8_behind : (w rest : List ℕ) → all_ascii w ≡ true → IsUtf8 (w ++ rest) → IsUtf8 rest
utf8_behind [] rest e u = u
utf8_behind (b ∷ w) rest e u =
    let parts = ascii_first b (all_ascii w) e in
    utf8_behind w rest parts.1 (IsUtf8-past_char (b ∷ (w ++ rest)) (w ++ rest) b u (ap (λ front. front ++ (w ++ rest)) (sym (encode_ascii b parts.0))))

-- what stands before a slash is a text
utf8_before : (name rest : List ℕ) → IsUtf8 (name ++ 47 ∷ rest) → IsUtf8 name
utf8_before name rest u =
    let path = name ++ 47 ∷ rest in
    let here : get_or path (length name) 0 ≡ 47 = get_or-append_seam name 47 rest 0 in
    let within : length name < length path = omega (arith, length-append name (47 ∷ rest)) in
    let small : get_or path (length name) 0 < 128 = omega arith in
    subst IsUtf8 (take-append_seam name (47 ∷ rest)) (IsUtf8-take path (length name) u (IsCharBoundary-before_ascii path (length name) within small))

-- what begins with a slash is a text
utf8_after : (name rest : List ℕ) → IsUtf8 (name ++ 47 ∷ rest) → IsUtf8 (47 ∷ rest)
utf8_after name rest u =
    let path = name ++ 47 ∷ rest in
    let here : get_or path (length name) 0 ≡ 47 = get_or-append_seam name 47 rest 0 in
    let within : length name < length path = omega (arith, length-append name (47 ∷ rest)) in
    let small : get_or path (length name) 0 < 128 = omega arith in
    subst IsUtf8 (drop-append_seam name (47 ∷ rest)) (IsUtf8-drop path (length name) u (IsCharBoundary-before_ascii path (length name) within small))

-- what the names of a text's route took are texts
pub taken_texts : (route : Route) → IsUtf8 (spelled route) → AllText (taken route)
taken_texts ToJobs u = tt
taken_texts (ToJob id) u = (text_id, utf8_behind (codes "/jobs/") id refl u, tt)
taken_texts (ToFiles id) u = (text_id, utf8_before id (codes "files") (utf8_behind (codes "/jobs/") (id ++ codes "/files") refl u), tt)
taken_texts (ToFile id file) u =
    let below = utf8_behind (codes "/jobs/") (id ++ (codes "/files/" ++ file)) refl u in
    (text_id, utf8_before id (codes "files/" ++ file) below, (text_file, utf8_behind (codes "/files/") file refl (utf8_after id (codes "files/" ++ file) below), tt))
taken_texts (ToEntry number) u = (text_n, utf8_behind (codes "/journal/") number refl u, tt)
taken_texts _ u = tt

-- the texts that the names took make the route
routed : (route : Route) → route_at (row_of route).value (λ key. named_in key (taken route)) ≡ Some route
routed ToJobs = refl
routed (ToJob id) = refl
routed (ToFiles id) = refl
routed (ToFile id file) = refl
routed ToLinks = refl
routed ToEndpoints = refl
routed ToShares = refl
routed ToBans = refl
routed (ToEntry number) = refl

-- what a match tells: the texts that its names took are texts, and they make the plain table's route
pub record Tells (path : List ℕ) (found : Found) : Type 0 where
  pub texts : AllText (told found path)
  pub route : route_of path ≡ route_at found.value (λ key. named_in key (told found path))

-- a match tells the route that the path spells
tells_route : (path : List ℕ) (found : Found) (route : Route) → IsUtf8 path → route_of path ≡ Some route → Spells path (Some route) → row_of route ≡ found → Tells path found
tells_route path found route u r spelled_so is =
    let said : told found path ≡ taken route = ap (λ f. told f path) (sym is) ∙ (ap (λ p. told (row_of route) p) spelled_so.0 ∙ told_route route spelled_so.1) in
    record {
      texts = subst AllText (sym said) (taken_texts route (subst IsUtf8 spelled_so.0 u));
      route = r ∙ (sym (routed route) ∙ (ap (λ f. route_at f.value (λ key. named_in key (taken route))) is ∙ ap (λ parts. route_at found.value (λ key. named_in key parts)) (sym said)));
    }

-- a match has some route
tells_some : (path : List ℕ) (found : Found) (to : Option Route) → IsUtf8 path → route_of path ≡ to → Spells path to → option_map row_of to ≡ Some found → Tells path found
tells_some path found None u r spelled_so is = absurd (cc)
tells_some path found (Some route) u r spelled_so is = tells_route path found route u r spelled_so (cc)

-- a match tells the plain table's route
pub tells : (path : List ℕ) (found : Found) → IsUtf8 path → AreBytes path → first table path ≡ Some found → Tells path found
tells path found u a is = tells_some path found (route_of path) u refl (spells path a) (sym (tabled path a) ∙ is)

-- no match, no route
none_missing : (to : Option Route) → option_map row_of to ≡ None → to ≡ None
none_missing None e = refl
none_missing (Some route) e = absurd (cc)

-- no match, so the plain table has no route
pub missing : (path : List ℕ) → AreBytes path → first table path ≡ None → route_of path ≡ None
missing path a is = none_missing (route_of path) (sym (tabled path a) ∙ is)
