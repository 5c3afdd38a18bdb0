-- Of a queue and destination one file leads, and no other; and one more leads there where none goes ahead of it.
use Rattle.std.proofs.Common.{◌≡◌, ◌+◌, Bool, true, false, List, ap, sym, ◌∙◌, subst, arith}
use Rattle.std.specs.Prelude.{not, ◌||◌, ◌&&◌}
use Rattle.std.specs.List.{list_any}
use Rattle.std.proofs.lemmas.Bool.{and_parts}
use Rattle.std.proofs.lemmas.Bool.Decides.{nat_tests}
use Rattle.ordered.specs.Orders.{AreSortedBy, has_key, put_by, without}
use Rattle.ordered.proofs.Members.{any_put, has_put, itself, one_of}
use Rattle.fts_heads.specs.declared.ripe_file.RipeFile.{RipeFile}
use Rattle.fts_heads.specs.declared.ripe_file.Lined.{Lined}
use Rattle.fts_heads.specs.Keys.{is_line_before}
use Rattle.fts_heads.specs.RipeFiles.{goes_by_group, by_group}
use Rattle.fts_heads.specs.Heads.{is_one, goes_ahead, leads, is_lined, is_within}
use Rattle.fts_heads.proofs.Tests.{same_answer}
use Rattle.fts_heads.proofs.Found.{any_there}
use Rattle.fts_heads.proofs.Ranges.{within, to_within, leader, IsAhead, ahead, to_false, both_same, none_there}
use Rattle.fts_heads.proofs.Walks.{line_put, line_without}
use Rattle.fts_heads.proofs.Upkeep.{own_range}
use Rattle.fts_heads.proofs.Firsts.{HasHead, has_head}

-- where none goes ahead of a file, none of its group that is there stands before it
not_before : (one file : RipeFile) (files : List RipeFile) → one.dest ≡ file.dest → one.queue ≡ file.queue → has_key goes_by_group one files ≡ true
    → list_any (λ other. goes_ahead other file) files ≡ false → goes_by_group one file ≡ false
not_before one file files dest queue there none = to_false (goes_by_group one file) (λ goes.
    sym (any_there goes_by_group by_group (λ other. goes_ahead other file) one files there
    (both_same one.dest file.dest one.queue file.queue (goes_by_group one file) dest queue goes)) ∙ none)

-- who leads is alone in its group
pub sole : (file : RipeFile) (files : List RipeFile) → leads files file ≡ true → (waiter : RipeFile)
    → (is_within file.dest file.queue (file.queue + 1) waiter && leads files waiter) ≡ is_one file waiter
sole file files leading waiter = same_answer (is_within file.dest file.queue (file.queue + 1) waiter && leads files waiter) (is_one file waiter) there back
  where
    there : (is_within file.dest file.queue (file.queue + 1) waiter && leads files waiter) ≡ true → is_one file waiter ≡ true
    there both =
        let parts = and_parts (is_within file.dest file.queue (file.queue + 1) waiter) (leads files waiter) both in
        let range = within file.dest file.queue (file.queue + 1) waiter.dest waiter.queue parts.0 in
        let queue : waiter.queue ≡ file.queue = omega (arith, range.least, range.less) in
        let one = leader files file leading in
        let other = leader files waiter parts.1 in
        subst (λ some. is_one file some ≡ true)
        (by_group.total file waiter (not_before file waiter files (sym range.same) (sym queue) one.there other.none)
        (not_before waiter file files range.same queue other.there one.none))
        (itself goes_by_group by_group file)

    back : is_one file waiter ≡ true → (is_within file.dest file.queue (file.queue + 1) waiter && leads files waiter) ≡ true
    back one =
        subst (λ some. (is_within file.dest file.queue (file.queue + 1) some && leads files some) ≡ true) (one_of goes_by_group by_group file waiter one)
        (ap (λ (test : Bool). test && leads files file) (own_range file.dest file.queue) ∙ leading)

-- so the line in which it comes has who leads of its group, and the line that it leaves has nobody of it
pub sole_entered : (file : RipeFile) (files : List RipeFile) (line : List Lined) → leads files file ≡ true → (waiter : RipeFile)
    → is_lined (put_by is_line_before (record { waiter = file }) line) waiter
    ≡ (is_lined line waiter || (is_within file.dest file.queue (file.queue + 1) waiter && leads files waiter))
sole_entered file files line leading waiter =
    line_put file line waiter
    ∙ (ap (λ (test : Bool). test || is_lined line waiter) (sym (sole file files leading waiter))
    ∙ swapped (is_within file.dest file.queue (file.queue + 1) waiter && leads files waiter) (is_lined line waiter))
  where
    swapped : (one other : Bool) → (one || other) ≡ (other || one)
    swapped one other = grind (arith, nat_tests)

pub sole_left : (file : RipeFile) (files : List RipeFile) (line : List Lined) → leads files file ≡ true → (waiter : RipeFile)
    → is_lined (without is_line_before (record { waiter = file }) line) waiter
    ≡ (is_lined line waiter && not (is_within file.dest file.queue (file.queue + 1) waiter && leads files waiter))
sole_left file files line leading waiter =
    line_without file line waiter ∙ ap (λ (test : Bool). is_lined line waiter && not test) (sym (sole file files leading waiter))

-- one more that none goes ahead of leads
leads_front : (file : RipeFile) (files : List RipeFile) → list_any (λ other. goes_ahead other file) files ≡ false
    → leads (put_by goes_by_group file files) file ≡ true
leads_front file files none =
    ap (λ (test : Bool). test && not (list_any (λ other. goes_ahead other file) (put_by goes_by_group file files)))
    (has_put goes_by_group file file files ∙ ap (λ (test : Bool). test || has_key goes_by_group file files) (itself goes_by_group by_group file))
    ∙ ap not
    (any_put goes_by_group (λ other. goes_ahead other file) file files
    ∙ (ap (λ (test : Bool). test || list_any (λ other. goes_ahead other file) files)
    (to_false (goes_ahead file file) (λ goes. sym (ahead file file goes).goes ∙ by_group.irreflexive file))
    ∙ none))

-- so does one in whose group nobody leads
pub leads_alone : (file : RipeFile) (files : List RipeFile) → AreSortedBy goes_by_group files
    → ((waiter : RipeFile) → (is_within file.dest file.queue (file.queue + 1) waiter && leads files waiter) ≡ false)
    → leads (put_by goes_by_group file files) file ≡ true
leads_alone file files sorted none =
    leads_front file files
    (none_there (λ other. goes_ahead other file) files (λ other there. to_false (goes_ahead other file) (λ goes.
    let parts = ahead other file goes in
    let has : HasHead files other = has_head files other sorted there in
    sym (ap (λ (test : Bool). test && leads files has.head)
    (to_within file.dest file.queue (file.queue + 1) has.head.dest has.head.queue (has.dest ∙ parts.dest) (omega (arith, has.queue, parts.queue))
    (omega (arith, has.queue, parts.queue))) ∙ has.leading)
    ∙ none has.head)))

-- and one that who leads in its group does not stand before
pub leads_before : (head file : RipeFile) (files : List RipeFile) → leads files head ≡ true → head.dest ≡ file.dest → head.queue ≡ file.queue
    → goes_by_group head file ≡ false → leads (put_by goes_by_group file files) file ≡ true
leads_before head file files leading dest queue behind =
    leads_front file files
    (none_there (λ other. goes_ahead other file) files (λ other there. to_false (goes_ahead other file) (λ goes. not_ahead other there (ahead other file goes))))
  where
    not_ahead : (other : RipeFile) → has_key goes_by_group other files ≡ true → IsAhead other file → true ≡ false
    not_ahead other there parts =
        let second : goes_by_group other head ≡ false =
        not_before other head files (parts.dest ∙ sym dest) (parts.queue ∙ sym queue) there (leader files head leading).none in
        let first : goes_by_group head other ≡ false =
        to_false (goes_by_group head other) (λ goes. sym (by_group.transitive head other file goes parts.goes) ∙ behind) in
        sym (subst (λ some. goes_by_group some file ≡ true) (by_group.total other head second first) parts.goes) ∙ behind
