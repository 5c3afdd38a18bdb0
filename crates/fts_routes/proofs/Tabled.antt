-- What the router's rows answer to a path is the row of the plain table's route.
use Rattle.std.proofs.Common.{◌≡◌, ◌≢◌, ℕ, ◌<◌, List, [], ◌∷◌, ◌++◌, Option, Some, None, Bool, true, false, cond, refl, sym, ap, ◌∙◌, arith, ◌==◌}
use Rattle.std.specs.Prelude.{bytes_eq, codes, option_map}
use Rattle.std.specs.Cmp.Lexicographic.{bytes_decides}
use Rattle.std.proofs.lemmas.Bool.Decides.{nat_tests}
use Rattle.matchit.specs.Rows.{RowsOf}
use Rattle.matchit.specs.Seek.{first, seek, or_else}
use Rattle.matchit.specs.Router.{RouteOf}
use Rattle.fts_routes.specs.declared.paths.Place.{Place}
use Rattle.fts_routes.specs.declared.paths.Place.TheVariants.{Jobs, Job, Files, File, Links, Endpoints, Shares, Bans, JournalEntry}
use Rattle.fts_tables.specs.Names.{segments}
use Rattle.fts_routes.specs.Routes.{route_of, route_by, route_of_names, route_of_jobs, route_of_job, route_of_files, route_of_config, route_of_ban, route_of_journal, File as ToFile, JournalEntry as ToEntry, Job as ToJob, Bans as ToBans}
use Rattle.fts_routes.specs.RouteRows.{table, row, row_of}
use Rattle.fts_routes.proofs.Walks.{IsWord, word_of_test, behind, under, node, at_node, seek_word, seek_name, seek_none, seek_apart}

-- what a match says of its row
abbrev pub Found : Type 0
Found = RouteOf Place

-- no row
abbrev nowhere : Option Found
nowhere = None

-- rows behind a part of a path
abbrev Below : Type 0
Below = RowsOf Found

-- what stands behind each word of a row, from the last one on
abbrev behind_file : Below
behind_file = under (256 ∷ []) (node [] (Some (row File)))

-- behind /jobs/{id}/
abbrev behind_id : Below
behind_id = under (codes "files") (node behind_file (Some (row Files)))

-- behind /jobs/
abbrev behind_jobs : Below
behind_jobs = under (256 ∷ []) (node behind_id (Some (row Job)))

-- the activities' row, behind /config/
abbrev shares : Below
shares = under (codes "activity_shares") (node [] (Some (row Shares)))

-- the links' row
abbrev links : Below
links = under (codes "links") (node [] (Some (row Links)))

-- the endpoints' row
abbrev endpoints : Below
endpoints = under (codes "se") (node [] (Some (row Endpoints)))

-- behind /config/
abbrev behind_config : Below
behind_config = shares ++ (links ++ endpoints)

-- behind /ban/
abbrev behind_ban : Below
behind_ban = under (codes "se") (node [] (Some (row Bans)))

-- behind /journal/
abbrev behind_journal : Below
behind_journal = under (256 ∷ []) (node [] (Some (row JournalEntry)))

-- the rows of /ban
abbrev ban : Below
ban = under (codes "ban") (node behind_ban None)

-- the rows of /config
abbrev config : Below
config = under (codes "config") (node behind_config None)

-- the rows of /jobs
abbrev jobs : Below
jobs = under (codes "jobs") (node behind_jobs (Some (row Jobs)))

-- the rows of /journal
abbrev journal : Below
journal = under (codes "journal") (node behind_journal None)

-- behind the first slash
abbrev behind_root : Below
behind_root = ban ++ (config ++ (jobs ++ journal))

-- so the table is a tree of words and names
by_words : table ≡ under [] (node behind_root None)
by_words = refl

-- the segments are words
abbrev pub AreWords : List (List ℕ) → Type 0
AreWords [] = Unit {0}
AreWords (first ∷ more) = IsWord first × AreWords more

-- nothing goes on
ended : (end : Option Found) (more : List (List ℕ)) → at_node [] end more ≡ elim (more) as (λ _. Option Found) [ [] ↦ end | first ∷ rest ↦ None ]
ended end [] = refl
ended end (first ∷ more) = seek_none 0 (first ++ behind more)

-- behind /jobs/{id}/files
after_files : (id : List ℕ) (more : List (List ℕ)) → bytes_eq id [] ≡ false → AreWords more → at_node behind_file (Some (row Files)) more ≡ option_map row_of (route_of_files id more)
after_files id [] some i = rw some refl
after_files id (file ∷ []) some i =
    seek_name file [] (Some (row File)) [] i.0
    ∙ rw some (elim (bytes_eq file []) as (λ empty. cond empty None (Some (row File)) ≡ option_map row_of (cond empty None (Some (ToFile id file)))) [ true ↦ refl | false ↦ refl ])
after_files id (file ∷ next ∷ more) some i =
    seek_name file [] (Some (row File)) (next ∷ more) i.0
    ∙ (rw (seek_none 0 (next ++ behind more)) (elim (bytes_eq file []) as (λ empty. cond empty None None ≡ nowhere) [ true ↦ refl | false ↦ refl ]))

-- behind /jobs/{id}
empty_id : (id : List ℕ) (more : List (List ℕ)) → bytes_eq id [] ≡ true → option_map row_of (route_of_files id more) ≡ None
empty_id id [] empty = rw empty refl
empty_id id (file ∷ []) empty = rw empty refl
empty_id id (file ∷ next ∷ more) empty = refl

-- the rows behind an id answer as the plain table does
after_id : (id : List ℕ) (more : List (List ℕ)) → AreWords more
    → cond (bytes_eq id []) None (at_node behind_id (Some (row Job)) more) ≡ option_map row_of (route_of_job id more)
after_id id [] i = elim (bytes_eq id []) as (λ empty. cond empty None (Some (row Job)) ≡ option_map row_of (cond empty None (Some (ToJob id)))) [ true ↦ refl | false ↦ refl ]
after_id id (word ∷ more) i =
    ap (λ found. cond (bytes_eq id []) None found) (seek_word (codes "files") word behind_file (Some (row Files)) more (word_of_test (codes "files") refl) i.0)
    ∙ by (bytes_eq id []) refl (bytes_eq word (codes "files"))
  where
    by : (empty : Bool) → bytes_eq id [] ≡ empty → (files : Bool)
        → cond empty None (cond files (at_node behind_file (Some (row Files)) more) None) ≡ option_map row_of (cond files (route_of_files id more) None)
    by true e true = sym (empty_id id more e)
    by true e false = refl
    by false e true = after_files id more e i.1
    by false e false = refl

-- behind /jobs
after_jobs : (more : List (List ℕ)) → AreWords more → at_node behind_jobs (Some (row Jobs)) more ≡ option_map row_of (route_of_jobs more)
after_jobs [] i = refl
after_jobs (id ∷ more) i = seek_name id behind_id (Some (row Job)) more i.0 ∙ after_id id more i.1

-- behind /config
config_of : (word : List ℕ)
    → or_else (cond (bytes_eq word (codes "activity_shares")) (Some (row Shares)) None) (or_else (cond (bytes_eq word (codes "links")) (Some (row Links)) None) (cond (bytes_eq word (codes "se")) (Some (row Endpoints)) None))
    ≡ option_map row_of (route_of_config (word ∷ []))
config_of word = by (bytes_eq word (codes "links")) refl (bytes_eq word (codes "se")) refl (bytes_eq word (codes "activity_shares")) refl
  where
    by : (links : Bool) → bytes_eq word (codes "links") ≡ links → (se : Bool) → bytes_eq word (codes "se") ≡ se → (shares : Bool) → bytes_eq word (codes "activity_shares") ≡ shares
        → or_else (cond (bytes_eq word (codes "activity_shares")) (Some (row Shares)) None) (or_else (cond (bytes_eq word (codes "links")) (Some (row Links)) None) (cond (bytes_eq word (codes "se")) (Some (row Endpoints)) None))
        ≡ option_map row_of (route_of_config (word ∷ []))
    by true p se q shares r = let is : word ≡ codes "links" = (bytes_decides word (codes "links")).0 p in rw is refl
    by false p true q shares r = let is : word ≡ codes "se" = (bytes_decides word (codes "se")).0 q in rw is refl
    by false p false q true r = let is : word ≡ codes "activity_shares" = (bytes_decides word (codes "activity_shares")).0 r in rw is refl
    by false p false q false r = rw (p, q, r) refl

-- the rows behind /config, one after the other
seek_config : (word : List ℕ) (more : List (List ℕ)) → IsWord word
    → seek 0 behind_config (word ++ behind more)
    ≡ or_else (cond (bytes_eq word (codes "activity_shares")) (at_node [] (Some (row Shares)) more) None) (or_else (cond (bytes_eq word (codes "links")) (at_node [] (Some (row Links)) more) None) (cond (bytes_eq word (codes "se")) (at_node [] (Some (row Endpoints)) more) None))
seek_config word more i =
    seek_apart (codes "activity_shares") (node [] (Some (row Shares))) (links ++ endpoints) (word ++ behind more) (word_of_test (codes "activity_shares") refl) refl
    ∙ (ap (λ found. or_else found (seek 0 (links ++ endpoints) (word ++ behind more))) (seek_word (codes "activity_shares") word [] (Some (row Shares)) more (word_of_test (codes "activity_shares") refl) i)
    ∙ ap (λ found. or_else (cond (bytes_eq word (codes "activity_shares")) (at_node [] (Some (row Shares)) more) None) found)
    (seek_apart (codes "links") (node [] (Some (row Links))) endpoints (word ++ behind more) (word_of_test (codes "links") refl) refl
    ∙ (ap (λ found. or_else found (seek 0 endpoints (word ++ behind more))) (seek_word (codes "links") word [] (Some (row Links)) more (word_of_test (codes "links") refl) i)
    ∙ ap (λ found. or_else (cond (bytes_eq word (codes "links")) (at_node [] (Some (row Links)) more) None) found) (seek_word (codes "se") word [] (Some (row Endpoints)) more (word_of_test (codes "se") refl) i))))

-- where more comes, none of these
none_of : (a b c : Bool) → or_else (cond a None None) (or_else (cond b None None) (cond c None None)) ≡ nowhere
none_of true true true = refl
none_of true true false = refl
none_of true false true = refl
none_of true false false = refl
none_of false true true = refl
none_of false true false = refl
none_of false false true = refl
none_of false false false = refl

-- the rows behind /config answer as the plain table does
after_config : (more : List (List ℕ)) → AreWords more → at_node behind_config None more ≡ option_map row_of (route_of_config more)
after_config [] i = refl
after_config (word ∷ []) i = seek_config word [] i.0 ∙ config_of word
after_config (word ∷ next ∷ more) i =
    seek_config word (next ∷ more) i.0
    ∙ rw (seek_none 0 (next ++ behind more)) (none_of (bytes_eq word (codes "activity_shares")) (bytes_eq word (codes "links")) (bytes_eq word (codes "se")))

-- behind /ban
after_ban : (more : List (List ℕ)) → AreWords more → at_node behind_ban None more ≡ option_map row_of (route_of_ban more)
after_ban [] i = refl
after_ban (word ∷ []) i =
    seek_word (codes "se") word [] (Some (row Bans)) [] (word_of_test (codes "se") refl) i.0
    ∙ elim (bytes_eq word (codes "se")) as (λ se. cond se (Some (row Bans)) None ≡ option_map row_of (cond se (Some ToBans) None)) [ true ↦ refl | false ↦ refl ]
after_ban (word ∷ next ∷ more) i =
    seek_word (codes "se") word [] (Some (row Bans)) (next ∷ more) (word_of_test (codes "se") refl) i.0
    ∙ rw (seek_none 0 (next ++ behind more)) (elim (bytes_eq word (codes "se")) as (λ se. cond se None None ≡ nowhere) [ true ↦ refl | false ↦ refl ])

-- behind /journal
after_journal : (more : List (List ℕ)) → AreWords more → at_node behind_journal None more ≡ option_map row_of (route_of_journal more)
after_journal [] i = refl
after_journal (number ∷ []) i =
    seek_name number [] (Some (row JournalEntry)) [] i.0
    ∙ elim (bytes_eq number []) as (λ empty. cond empty None (Some (row JournalEntry)) ≡ option_map row_of (cond empty None (Some (ToEntry number)))) [ true ↦ refl | false ↦ refl ]
after_journal (number ∷ next ∷ more) i =
    seek_name number [] (Some (row JournalEntry)) (next ∷ more) i.0
    ∙ rw (seek_none 0 (next ++ behind more)) (elim (bytes_eq number []) as (λ empty. cond empty None None ≡ nowhere) [ true ↦ refl | false ↦ refl ])

-- behind the first slash
abbrev chosen : List ℕ → Option Found → Option Found → Option Found → Option Found → Option Found
chosen word in_ban in_config in_jobs in_journal =
    or_else (cond (bytes_eq word (codes "ban")) in_ban None)
    (or_else (cond (bytes_eq word (codes "config")) in_config None)
    (or_else (cond (bytes_eq word (codes "jobs")) in_jobs None) (cond (bytes_eq word (codes "journal")) in_journal None)))

-- the rows behind the first slash, one word after the other
seek_root : (word : List ℕ) (more : List (List ℕ)) → IsWord word
    → seek 0 behind_root (word ++ behind more)
    ≡ chosen word (at_node behind_ban None more) (at_node behind_config None more) (at_node behind_jobs (Some (row Jobs)) more) (at_node behind_journal None more)
seek_root word more i =
    let path = word ++ behind more in
    seek_apart (codes "ban") (node behind_ban None) (config ++ (jobs ++ journal)) path (word_of_test (codes "ban") refl) refl
    ∙ (ap (λ found. or_else found (seek 0 (config ++ (jobs ++ journal)) path)) (seek_word (codes "ban") word behind_ban None more (word_of_test (codes "ban") refl) i)
    ∙ ap (λ found. or_else (cond (bytes_eq word (codes "ban")) (at_node behind_ban None more) None) found)
    (seek_apart (codes "config") (node behind_config None) (jobs ++ journal) path (word_of_test (codes "config") refl) refl
    ∙ (ap (λ found. or_else found (seek 0 (jobs ++ journal) path)) (seek_word (codes "config") word behind_config None more (word_of_test (codes "config") refl) i)
    ∙ ap (λ found. or_else (cond (bytes_eq word (codes "config")) (at_node behind_config None more) None) found)
    (seek_apart (codes "jobs") (node behind_jobs (Some (row Jobs))) journal path (word_of_test (codes "jobs") refl) refl
    ∙ (ap (λ found. or_else found (seek 0 journal path)) (seek_word (codes "jobs") word behind_jobs (Some (row Jobs)) more (word_of_test (codes "jobs") refl) i)
    ∙ ap (λ found. or_else (cond (bytes_eq word (codes "jobs")) (at_node behind_jobs (Some (row Jobs)) more) None) found) (seek_word (codes "journal") word behind_journal None more (word_of_test (codes "journal") refl) i))))))

-- no second answer changes nothing
none_after : (found : Option Found) → or_else found None ≡ found
none_after None = refl
none_after (Some key) = refl

-- at most one of four words is the first one, so their order is nothing
root_of : (word : List ℕ) (more : List (List ℕ))
    → chosen word (option_map row_of (route_of_ban more)) (option_map row_of (route_of_config more)) (option_map row_of (route_of_jobs more)) (option_map row_of (route_of_journal more))
    ≡ option_map row_of (route_of_names (word ∷ more))
root_of word more = by (bytes_eq word (codes "jobs")) refl (bytes_eq word (codes "config")) refl (bytes_eq word (codes "ban")) refl (bytes_eq word (codes "journal")) refl
  where
    by : (jobs : Bool) → bytes_eq word (codes "jobs") ≡ jobs → (config : Bool) → bytes_eq word (codes "config") ≡ config
        → (ban : Bool) → bytes_eq word (codes "ban") ≡ ban → (journal : Bool) → bytes_eq word (codes "journal") ≡ journal
        → chosen word (option_map row_of (route_of_ban more)) (option_map row_of (route_of_config more)) (option_map row_of (route_of_jobs more)) (option_map row_of (route_of_journal more))
        ≡ option_map row_of (route_of_names (word ∷ more))
    by true p config q ban r journal s =
        let is : word ≡ codes "jobs" = (bytes_decides word (codes "jobs")).0 p in rw is (none_after (option_map row_of (route_of_jobs more)))
    by false p true q ban r journal s =
        let is : word ≡ codes "config" = (bytes_decides word (codes "config")).0 q in rw is (none_after (option_map row_of (route_of_config more)))
    by false p false q true r journal s =
        let is : word ≡ codes "ban" = (bytes_decides word (codes "ban")).0 r in rw is (none_after (option_map row_of (route_of_ban more)))
    by false p false q false r true s =
        let is : word ≡ codes "journal" = (bytes_decides word (codes "journal")).0 s in rw is refl
    by false p false q false r false s = rw (p, q, r, s) refl

-- the rows behind the first slash answer as the plain table does
after_root : (more : List (List ℕ)) → AreWords more → at_node behind_root None more ≡ option_map row_of (route_of_names more)
after_root [] i = refl
after_root (word ∷ more) i =
    seek_root word more i.0
    ∙ (rw (after_ban more i.1, after_config more i.1, after_jobs more i.1, after_journal more i.1) (root_of word more))

-- a path as its segments
pub record IsCut (path first : List ℕ) (more : List (List ℕ)) : Type 0 where
  pub parts : segments path ≡ first ∷ more
  pub whole : path ≡ first ++ behind more
  pub first_word : IsWord first
  pub words : AreWords more

-- numbers below 256
abbrev pub AreBytes : List ℕ → Type 0
AreBytes [] = Unit {0}
AreBytes (b ∷ path) = (b < 256) × AreBytes path

-- each path is cut so
pub cut : (path : List ℕ) → AreBytes path → (first : List ℕ) × ((more : List (List ℕ)) × IsCut path first more)
cut [] a = ([], ([], record { parts = refl; whole = refl; first_word = tt; words = tt }))
cut (b ∷ path) a = by (b == 47) refl (cut path a.1)
  where
    by : (slash : Bool) → (b == 47) ≡ slash → (first : List ℕ) × ((more : List (List ℕ)) × IsCut path first more)
        → (first : List ℕ) × ((more : List (List ℕ)) × IsCut (b ∷ path) first more)
    by true e c =
        let is : b ≡ 47 = grind (arith, nat_tests) in (
          [],
          (
            c.0 ∷ c.1.0,
            record {
              parts = rw (e, c.1.1.parts) refl;
              whole = rw is (ap (λ rest. 47 ∷ rest) c.1.1.whole);
              first_word = tt;
              words = (c.1.1.first_word, c.1.1.words);
            },
          ),
        )
    by false e c =
        let n : b ≢ 47 = λ f. grind (arith, nat_tests) in (
          b ∷ c.0,
          (
            c.1.0,
            record {
              parts = rw (e, c.1.1.parts) refl;
              whole = ap (λ rest. b ∷ rest) c.1.1.whole;
              first_word = ((a.0, n), c.1.1.first_word);
              words = c.1.1.words;
            },
          ),
        )

-- the rows answer as the plain table does to a path that is cut so
tabled_cut : (path root : List ℕ) (more : List (List ℕ)) → IsCut path root more → first table path ≡ option_map row_of (route_of path)
tabled_cut path root more c =
    ap (λ p. first table p) c.whole
    ∙ (seek_word [] root behind_root None more tt c.first_word
    ∙ (elim (bytes_eq root []) as (λ empty. cond empty (at_node behind_root None more) None ≡ option_map row_of (cond empty (route_of_names more) None)) [
      | true ↦ after_root more c.words
      | false ↦ refl
    ]
    ∙ ap (λ parts. option_map row_of (route_by parts)) (sym c.parts)))

-- for every path the router's rows answer the plain table's row
pub tabled : (path : List ℕ) → AreBytes path → first table path ≡ option_map row_of (route_of path)
tabled path a = let c = cut path a in tabled_cut path c.0 c.1.0 c.1.1
