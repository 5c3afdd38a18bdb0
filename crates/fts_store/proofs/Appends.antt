-- What an append to a store in memory makes of its files.
use Rattle.std.proofs.Common.{◌≡◌, ℕ, true, Option, Some, Result, Ok, Err, OnOk, OnErr, List, [], ◌∷◌, ◌++◌, refl, ◌∙◌, ap}
use Rattle.fts_tables.specs.declared.places.Place.{Place}
use Rattle.fts_store.specs.Store.{Same, SameBut, with_file}
use Rattle.fts_store.specs.Memory.{is_empty, kept_bytes}
use Rattle.fts_store.proofs.Places.{put_there, put_elsewhere}

-- where no append is listed none loses a byte
pub faithful_keeps : (listed : List ℕ) (number : ℕ) (bytes : List ℕ) → is_empty listed ≡ true → kept_bytes listed number bytes ≡ bytes
faithful_keeps [] number bytes none = refl
faithful_keeps (n ∷ listed) number bytes none = cc

-- what a change that was done put there
pub done_there : {T E : Type 0} (result : Result T E) (old new : Place → Option (List ℕ)) (at : Place) (held kept bytes : List ℕ)
    → kept ≡ bytes → OnOk result (Same new (with_file old at (Some (held ++ kept)))) → OnOk result (new at ≡ Some (held ++ bytes))
done_there (Ok t) old new at held kept bytes is put = put_there old new at (Some (held ++ kept)) put ∙ ap (λ b. Some (held ++ b)) is
done_there (Err e) old new at held kept bytes is put = tt

-- a change leaves all else, whether it was done or failed
pub done_elsewhere : {T E : Type 0} (result : Result T E) (old new : Place → Option (List ℕ)) (at : Place) (file : Option (List ℕ))
    → OnOk result (Same new (with_file old at file)) → OnErr result (Same new old) → SameBut at old new
done_elsewhere (Ok t) old new at file put failed = put_elsewhere old new at file put
done_elsewhere (Err e) old new at file put failed = λ place apart. failed place
