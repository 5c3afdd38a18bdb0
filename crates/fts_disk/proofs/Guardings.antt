-- How what is believed of a file decides what is done with it.
use Rattle.std.proofs.Common.{◌≡◌, ℕ, zero, suc, ◌+◌, ◌-◌, ◌*◌, ◌/◌, ◌<◌, true, false, Option, ◌≤◌, List, length, take, sym, ap, ◌∙◌, subst, inl, inr, arith}
use Rattle.std.specs.Prelude.{◌⊎◌, ◌==◌, min, replicate, if◌then◌else◌}
use Rattle.std.proofs.lemmas.Bool.{eqb-true, eq-eqb}
use Rattle.std.proofs.lemmas.List.{length-take-le}
use Rattle.std.proofs.Math.Seq.{take-length}
use Rattle.fts_disk.specs.declared.guard.State.{State}
use Rattle.fts_disk.specs.declared.guard.Trust.TheVariants.{Whole, ReadBack, Nothing}
use Rattle.fts_files.specs.Calls.{Call, SyncData}
use Rattle.fts_files.specs.Script.{Script, Does, LeadsTo, fails, unless_failed}
use Rattle.fts_disk.specs.Guard.{restores, restores_by, confirms, confirms_by, readies, needs_zeros, ready_end, zeros_on}
use Rattle.fts_files.specs.Writing.{writes_whole}
use Rattle.fts_files.proofs.Playing.{leads_same, chosen, left}

module _ (file : ℕ) (state : State) where
  pub nothing_leads : (from : ℕ) (next : State → Script) (log : Option (List Call)) → state.trust ≡ Nothing from
      → LeadsTo (restores file state next) log (restores_by file state next (Nothing from)) log
  unfolding restores
  nothing_leads from next log is = subst (λ t. LeadsTo (restores file state next) log (restores_by file state next t) log) is (leads_same _ log)

  pub whole_leads : (next : State → Script) (log : Option (List Call)) → state.trust ≡ Whole → LeadsTo (restores file state next) log (next state) log
  unfolding restores
  whole_leads next log is = subst (λ t. LeadsTo (restores file state next) log (restores_by file state next t) log) is (leads_same _ log)

  pub read_back_leads : (writes from : ℕ) (next : State → Script) (log : Option (List Call)) → state.trust ≡ ReadBack writes from → LeadsTo (restores file state next) log (next state) log
  unfolding restores
  read_back_leads writes from next log is = subst (λ t. LeadsTo (restores file state next) log (restores_by file state next t) log) is (leads_same _ log)

  -- where something is believed
  pub kept_leads : (next : State → Script) (log : Option (List Call)) → (state.trust ≡ Whole) ⊎ ((writes : ℕ) × (from : ℕ) × (state.trust ≡ ReadBack writes from))
      → LeadsTo (restores file state next) log (next state) log
  kept_leads next log (inl is) = whole_leads next log is
  kept_leads next log (inr is) = read_back_leads is.0 is.1 next log is.2

  -- a write is read back, or it isn't
  pub confirm_leads : (at : ℕ) (bytes : List ℕ) (writes from : ℕ) (next : State → Script) (log : Option (List Call)) → state.trust ≡ ReadBack writes from
      → LeadsTo (confirms file at bytes state next) log (confirms_by file at bytes state next (ReadBack writes from)) log
  unfolding confirms
  confirm_leads at bytes writes from next log is = subst (λ t. LeadsTo (confirms file at bytes state next) log (confirms_by file at bytes state next t) log) is (leads_same _ log)

  pub unconfirmed_leads : (at : ℕ) (bytes : List ℕ) (next : State → Script) (log : Option (List Call)) → (state.trust ≡ Whole) ⊎ ((from : ℕ) × (state.trust ≡ Nothing from))
      → LeadsTo (confirms file at bytes state next) log (next state) log
  unfolding confirms
  unconfirmed_leads at bytes next log (inl is) = subst (λ t. LeadsTo (confirms file at bytes state next) log (confirms_by file at bytes state next t) log) is (leads_same _ log)
  unconfirmed_leads at bytes next log (inr is) = subst (λ t. LeadsTo (confirms file at bytes state next) log (confirms_by file at bytes state next t) log) is.1 (leads_same _ log)

-- zeros are needed, or they aren't
pub zeros_lead : (file ready at size to : ℕ) (next : ℕ → Script) (log : Option (List Call)) → to ≡ ready_end (at + size) → needs_zeros ready at size ≡ true
    → LeadsTo (readies file ready at size next) log (zeros_on file (Does (SyncData file) (unless_failed (next to) fails)) to ready ((to - ready + 65535) / 65536)) log
unfolding readies
zeros_lead file ready at size to next log is needs =
    subst (λ n. LeadsTo (readies file ready at size next) log (zeros_on file (Does (SyncData file) (unless_failed (next n) fails)) n ready ((n - ready + 65535) / 65536)) log) (sym is)
    (chosen (needs_zeros ready at size) _ _ log needs)

pub no_zeros_lead : (file ready at size : ℕ) (next : ℕ → Script) (log : Option (List Call)) → needs_zeros ready at size ≡ false → LeadsTo (readies file ready at size next) log (next ready) log
unfolding readies
no_zeros_lead file ready at size next log needs = left (needs_zeros ready at size) _ _ log needs

-- the next piece of zeros
pub piece_leads : (file : ℕ) (next : Script) (to from i pieces : ℕ) (bytes : List ℕ) (log : Option (List Call)) → i < pieces → bytes ≡ replicate (min (to - (from + i * 65536)) 65536) 0
    → LeadsTo (zeros_on file next to (from + i * 65536) (pieces - i)) log
    (writes_whole file (from + i * 65536) bytes (zeros_on file next to (from + (i + 1) * 65536) (pieces - (i + 1)))) log
unfolding zeros_on
piece_leads file next to from i pieces bytes log more is =
    let behind : from + i * 65536 + 65536 ≡ from + (i + 1) * 65536 = omega arith in
    subst (λ n. LeadsTo (zeros_on file next to (from + i * 65536) (pieces - i)) log (writes_whole file (from + i * 65536) bytes (zeros_on file next to n (pieces - (i + 1)))) log) behind
    (subst (λ l. LeadsTo (zeros_on file next to (from + i * 65536) (pieces - i)) log (writes_whole file (from + i * 65536) l (zeros_on file next to (from + i * 65536 + 65536) (pieces - (i + 1)))) log) (sym is)
    (one_more (pieces - i) (pieces - (i + 1)) (from + i * 65536) (omega arith)))
  where
    one_more : (times rest at : ℕ) → times ≡ suc rest
        → LeadsTo (zeros_on file next to at times) log (writes_whole file at (replicate (min (to - at) 65536) 0) (zeros_on file next to (at + 65536) rest)) log
    one_more zero rest at is = absurd (omega arith)
    one_more (suc times) rest at is =
        let same : times ≡ rest = omega arith in
        subst (λ n. LeadsTo (zeros_on file next to at (suc times)) log (writes_whole file at (replicate (min (to - at) 65536) 0) (zeros_on file next to (at + 65536) n)) log) same (leads_same _ log)

-- no piece more
pub pieces_end : (file : ℕ) (next : Script) (to at times : ℕ) (log : Option (List Call)) → times ≡ 0 → LeadsTo (zeros_on file next to at times) log next log
unfolding zeros_on
pieces_end file next to at zero log is = leads_same next log
pieces_end file next to at (suc times) log is = absurd (omega arith)

-- a buffer that was filled, and one that wasn't
pub full_leads : (next : List ℕ → Script) (into : List ℕ) (count wanted : ℕ) (log : Option (List Call)) → wanted ≡ length into → (count == wanted) ≡ true
    → LeadsTo (if length (take count into) == wanted then next (take count into) else fails) log (next into) log
full_leads next into count wanted log long all =
    let same : take count into ≡ into = ap (λ n. take n into) (eqb-true count wanted all ∙ long) ∙ take-length into in
    subst (λ l. LeadsTo (if length l == wanted then next l else fails) log (next into) log) (sym same)
    (chosen (length into == wanted) _ _ log (eq-eqb (length into) wanted (sym long)))

pub short_leads : (next : List ℕ → Script) (into : List ℕ) (count wanted : ℕ) (log : Option (List Call)) → count ≤ length into → (count == wanted) ≡ false
    → LeadsTo (if length (take count into) == wanted then next (take count into) else fails) log fails log
short_leads next into count wanted log within short =
    left (length (take count into) == wanted) _ _ log (ap (λ n. n == wanted) (length-take-le count into within) ∙ short)
