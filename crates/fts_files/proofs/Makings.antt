-- What has a part's name, by its kind.
use Rattle.std.proofs.Common.{◌≡◌, Option, List, sym, subst, inl, inr}
use Rattle.std.specs.Prelude.{◌⊎◌}
use Rattle.fts_files.specs.declared.files.Kind.{Kind}
use Rattle.fts_files.specs.declared.files.Kind.TheVariants.{File, Folder, Other}
use Rattle.fts_files.specs.Calls.{Call}
use Rattle.fts_files.specs.Script.{Script, LeadsTo}
use Rattle.fts_files.specs.Making.{by_kind}
use Rattle.fts_files.proofs.Playing.{leads_same}

-- a plain file
pub plain_leads : (plain other : Script) (kind : Kind) (log : Option (List Call)) → kind ≡ File → LeadsTo (by_kind plain other kind) log plain log
plain_leads plain other kind log is = subst (λ k. LeadsTo (by_kind plain other k) log plain log) (sym is) (leads_same plain log)

-- anything else
pub other_leads : (plain other : Script) (kind : Kind) (log : Option (List Call)) → (kind ≡ Folder) ⊎ (kind ≡ Other) → LeadsTo (by_kind plain other kind) log other log
other_leads plain other kind log (inl is) = subst (λ k. LeadsTo (by_kind plain other k) log other log) (sym is) (leads_same other log)
other_leads plain other kind log (inr is) = subst (λ k. LeadsTo (by_kind plain other k) log other log) (sym is) (leads_same other log)
