-- A keep that nothing is done to, or that is only looked at, keeps its images.
use Rattle.std.proofs.Common.{◌≡◌, inl, inr, ⊎_elim, ℕ, List, [], ◌∷◌, ◌++◌, Option, Some, None, sym, ◌∙◌, subst, append-nil, arith}
use Rattle.fts_tables.specs.Tables.{Tables, empty_tables}
use Rattle.fts_tables.specs.Step.{step}
use Rattle.fts_tables.specs.History.{IsLegal, IsLegalFrom, tables_after}
use Rattle.fts_tables.specs.declared.commands.Entry.{Entry}
use Rattle.fts_disk.specs.Disk.{DiskState, IsTold, IsLawful}
use Rattle.fts_keep.specs.Looking.{OnlyLooks}
use Rattle.fts_keep.specs.Keeps.{KeepData, IsKeep, HoldsList, IsImageOf, IsImageSince, KeepsImagesSinceAny, StandsFor, with_doubt}

-- the beginning of a legal list is legal
legal-front : (tables : Tables) (entries more : List Entry) → IsLegalFrom tables (entries ++ more) → IsLegalFrom tables entries
legal-front tables [] more legal = tt
legal-front tables (entry ∷ entries) more legal = (legal.0, legal-front (tables_after tables (step tables entry.command)) entries more legal.1)

legal-itself : (entries : List Entry) (doubt : Option Entry) → IsLegal (with_doubt entries doubt) → IsLegal entries
legal-itself entries None legal = legal
legal-itself entries (Some entry) legal = legal-front empty_tables entries (entry ∷ []) legal

-- an image of a list is one since any of its openings
since-opening : (opening since entries : List Entry) (doubt : Option Entry) (content : List ℕ) → entries ≡ opening ++ since → IsLegal (with_doubt entries doubt)
    → IsImageOf entries doubt content → IsImageSince opening entries content
since-opening opening since entries doubt content parts legal (inl stands) = record {
  since = since;
  later = [];
  parts = parts ∙ sym (append-nil (opening ++ since));
  doubt = None;
  legal = subst (λ (list : List Entry). IsLegal list) parts (legal-itself entries doubt legal);
  stands = subst (λ (list : List Entry). StandsFor content list) parts stands;
}
since-opening opening since entries doubt content parts legal (inr stands) = record {
  since = since;
  later = [];
  parts = parts ∙ sym (append-nil (opening ++ since));
  doubt = doubt;
  legal = subst (λ (list : List Entry). IsLegal (with_doubt list doubt)) parts legal;
  stands = subst (λ (list : List Entry). StandsFor content (with_doubt list doubt)) parts stands;
}

-- nothing is done
pub still : {D : Type 0} (state : D → DiskState) → ((disk : D) → IsTold (state disk) → IsLawful (state disk)) → (keep : KeepData D) → IsKeep state keep
    → KeepsImagesSinceAny state keep keep
still state lawful keep kept opening since parts told = record {
  later = omega arith;
  each = λ content left. since-opening opening since keep.entries keep.doubt content parts (kept.fold.holds told).legal
      ((kept.fold.holds told).images content ((lawful keep.disk told).only_now content left));
  before = λ moment content le left. inl left;
}

-- the keep was only looked at
pub looked_since : {D : Type 0} (state : D → DiskState) (faults : D → ℕ) → ((disk : D) → IsTold (state disk) → IsLawful (state disk))
    → (old new : KeepData D) → IsKeep state old → OnlyLooks state faults old new → KeepsImagesSinceAny state old new
looked_since state faults lawful old new kept only opening since parts told =
    let moments = only.moments told in
    let holds = kept.fold.holds told in
    record {
      later = moments.later;
      each = λ content left. image holds content (moments.each content left);
      before = λ moment content le left. ⊎_elim (λ past. inl past) (λ may. inr (image holds content may)) (moments.before moment content le left);
    }
  where
    image : HoldsList (state old.disk) old.entries old.doubt old.tables old.commands old.used old.in_doubt → (content : List ℕ)
        → (state old.disk).may_leave content → IsImageSince opening new.entries content
    image holds content may = subst (λ list. IsImageSince opening list content) (sym only.entries)
        (since-opening opening since old.entries old.doubt content parts holds.legal (holds.images content may))
