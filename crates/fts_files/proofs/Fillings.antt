-- A buffer that is filled, read by read.
use Rattle.std.proofs.Common.{◌≡◌, ℕ, zero, suc, ◌+◌, ◌-◌, ◌<◌, ◌≤◌, Option, List, [], ◌∷◌, ◌++◌, length, take, drop, sym, ◌∙◌, ap, subst, arith}
use Rattle.std.proofs.lemmas.List.{take-append-drop, take-take, drop-take, length-take-le, length-drop}
use Rattle.fts_files.specs.Calls.{Call}
use Rattle.fts_files.specs.Script.{Script, LeadsTo}
use Rattle.fts_files.specs.Reading.{by_end, reads_once, reads_on}
use Rattle.fts_files.proofs.Playing.{leads_same, same_leads, then_leads}

-- a read that gave nothing
ends : (ended : Script) (goes : List ℕ → Script) (bytes : List ℕ) (log : Option (List Call)) → length bytes ≡ 0 → LeadsTo (by_end ended goes bytes) log ended log
ends ended goes [] log is = leads_same ended log
ends ended goes (byte ∷ bytes) log is = absurd (omega arith)

-- and one that gave something
goes_on : (ended : Script) (goes : List ℕ → Script) (bytes : List ℕ) (log : Option (List Call)) → 0 < length bytes → LeadsTo (by_end ended goes bytes) log (goes bytes) log
goes_on ended goes [] log is = absurd (omega arith)
goes_on ended goes (byte ∷ bytes) log is = leads_same (goes (byte ∷ bytes)) log

-- what was there, and what came behind it
taken_on : (bytes : List ℕ) (done count : ℕ) → take (done + count) bytes ≡ take done bytes ++ take count (drop done bytes)
taken_on bytes done count =
    sym (take-append-drop done (take (done + count) bytes))
    ∙ ap (λ front. front ++ drop done (take (done + count) bytes)) (take-take done (done + count) bytes (omega arith))
    ∙ ap (λ back. take done bytes ++ back) (drop-take done count bytes)

-- so many came, where there is room for them
came_long : (bytes : List ℕ) (done count : ℕ) → done + count ≤ length bytes → length (take count (drop done bytes)) ≡ count
came_long bytes done count within = length-take-le count (drop done bytes) (omega (arith, length-drop done bytes))

module _ (file : ℕ) (next : List ℕ → Script) where
  -- no more are wanted
  pub filled : (times offset wanted : ℕ) (had : List ℕ) (log : Option (List Call)) → wanted ≡ 0 → LeadsTo (reads_on file next times offset wanted had) log (next had) log
  unfolding reads_on
  filled zero offset zero had log is = leads_same (next had) log
  filled (suc times) offset zero had log is = leads_same (next had) log
  filled times offset (suc wanted) had log is = absurd (omega arith)

  -- what is left to do behind bytes that a read gave
  further : ℕ → ℕ → ℕ → List ℕ → List ℕ → Script
  further rest offset wanted had bytes = reads_on file next rest (offset + length bytes) (wanted - length bytes) (had ++ bytes)

  -- and behind a read that may have given none
  goes : ℕ → ℕ → ℕ → List ℕ → List ℕ → Script
  goes rest offset wanted had = by_end (next had) (further rest offset wanted had)

  -- the next read
  next_read : (times rest offset wanted : ℕ) (had : List ℕ) (log : Option (List Call)) → times ≡ suc rest → 0 < wanted
      → LeadsTo (reads_on file next times offset wanted had) log (reads_once file offset wanted (goes rest offset wanted had) 1000) log
  unfolding reads_on goes further
  next_read times rest offset zero had log more some = absurd (omega arith)
  next_read zero rest offset (suc wanted) had log more some = absurd (omega arith)
  next_read (suc times) rest offset (suc wanted) had log more some =
      let same : times ≡ rest = omega arith in
      subst (λ n. LeadsTo (reads_on file next (suc times) offset (suc wanted) had) log (reads_once file offset (suc wanted) (goes n offset (suc wanted) had) 1000) log) same
      (leads_same _ log)

  -- and where it leads, for a buffer of so much room
  read_leads : (times rest offset long room done : ℕ) (had : List ℕ) (to : (List ℕ → Script) → Script) (old new : Option (List Call)) → long ≡ room → times ≡ suc rest → done < room
      → ((follow : List ℕ → Script) → LeadsTo (reads_once file offset (long - done) follow 1000) old (to follow) new)
      → LeadsTo (reads_on file next times offset (room - done) had) old (to (goes rest offset (room - done) had)) new
  read_leads times rest offset long room done had to old new is more some read =
      then_leads (next_read times rest offset (room - done) had old more (omega arith))
      (subst (λ n. LeadsTo (reads_once file offset (n - done) (goes rest offset (room - done) had) 1000) old (to (goes rest offset (room - done) had)) new) is
      (read (goes rest offset (room - done) had)))

  module _ (times rest offset long room done : ℕ) (before : List ℕ) (old new : Option (List Call)) (is : long ≡ room) (more : times ≡ suc rest) (some : done < room) where
    -- a read that failed
    pub read_fails : (ended : Script) → ((follow : List ℕ → Script) → LeadsTo (reads_once file (offset + done) (long - done) follow 1000) old ended new)
        → LeadsTo (reads_on file next times (offset + done) (room - done) (take done before)) old ended new
    read_fails ended read = read_leads times rest (offset + done) long room done (take done before) (λ follow. ended) old new is more some read

    module _ (count : ℕ) (behind : List ℕ) (within : done + count ≤ length behind) (kept : take done behind ≡ take done before)
        (read : (follow : List ℕ → Script) → LeadsTo (reads_once file (offset + done) (long - done) follow 1000) old (follow (take count (drop done behind))) new) where
      -- one that gave the end
      pub read_ends : count ≡ 0 → LeadsTo (reads_on file next times (offset + done) (room - done) (take done before)) old (next (take done behind)) new
      unfolding goes
      read_ends none =
          then_leads (read_leads times rest (offset + done) long room done (take done before) (λ follow. follow (take count (drop done behind))) old new is more some read)
          (then_leads (ends (next (take done before)) (further rest (offset + done) (room - done) (take done before)) (take count (drop done behind)) new (came_long behind done count within ∙ none))
          (same_leads (next (take done before)) (next (take done behind)) new (ap next (sym kept))))

      -- and one that gave so many bytes
      pub read_further : 0 < count
          → LeadsTo (reads_on file next times (offset + done) (room - done) (take done before)) old (reads_on file next rest (offset + (done + count)) (room - (done + count)) (take (done + count) behind)) new
      unfolding goes further
      read_further gave =
          let came : length (take count (drop done behind)) ≡ count = came_long behind done count within in
          let to : offset + done + length (take count (drop done behind)) ≡ offset + (done + count) = omega (arith, came) in
          let left : room - done - length (take count (drop done behind)) ≡ room - (done + count) = omega (arith, came) in
          let all : take done before ++ take count (drop done behind) ≡ take (done + count) behind =
          ap (λ front. front ++ take count (drop done behind)) (sym kept) ∙ sym (taken_on behind done count) in
          then_leads (read_leads times rest (offset + done) long room done (take done before) (λ follow. follow (take count (drop done behind))) old new is more some read)
          (then_leads (goes_on (next (take done before)) (further rest (offset + done) (room - done) (take done before)) (take count (drop done behind)) new (omega (arith, came)))
          (same_leads _ _ new (ap (λ n. reads_on file next rest n (room - done - length (take count (drop done behind))) (take done before ++ take count (drop done behind))) to
          ∙ ap (λ n. reads_on file next rest (offset + (done + count)) n (take done before ++ take count (drop done behind))) left
          ∙ ap (λ l. reads_on file next rest (offset + (done + count)) (room - (done + count)) l) all)))
