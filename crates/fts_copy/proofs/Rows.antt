-- Worked rows: which calls a copy makes and how it ends, by these answers.
use Rattle.std.proofs.Common.{Some, None, Bool, true, false, List, [], ◌∷◌, refl, inl, inr}
use Rattle.std.specs.Prelude.{codes}
use Rattle.fts_tables.specs.declared.rows.Outcome.TheVariants.{SourceMissing, SourceSize, ReadBackDiffers, Stopped}
use Rattle.fts_store.specs.Calls.{Call, Sized, Read, Created, Appended}
use Rattle.fts_copy.specs.Copy.{Order, part_of}
use Rattle.fts_copy.specs.Script.{Plays, Log, log_of, reads_on, reads_piece, reads_behind, ends_there, matches, reads_back, digests, writes_piece, unless_short, writes, writes_part, transfers, fits, is_free, looks_at, looks, copy_of}

-- any size and digest are wanted, and nothing may be replaced
abbrev row : Order
row = record {
  source = record { endpoint = codes "https://a.example"; path = codes "data/f1" };
  dest = record { endpoint = codes "https://b.example"; path = codes "store/f1" };
  file = 1;
  size = 0;
  wanted = None;
  overwrite = false;
}

-- these calls and answers, told from the start
abbrev told : List Call → List Bool → Log
told calls answers = log_of (Some calls) (Some answers)

-- there is no source
missing : Plays (copy_of row) (told [] []) (told (Sized row.source (Some None) ∷ []) []) SourceMissing
unfolding copy_of looks looks_at Plays
missing = inl (None, (refl, refl))

-- a source of three bytes that was cut to two since it was looked at
cut : Plays (copy_of row) (told [] [])
    (told (Sized row.source (Some (Some 3)) ∷ Sized row.dest (Some None) ∷ Created (part_of row) (Some tt) ∷ Read row.source 0 3 (Some (97 ∷ 98 ∷ [])) ∷ Read row.source 2 1 (Some [])
    ∷ Appended (part_of row) (97 ∷ 98 ∷ []) (Some tt) ∷ []) (true ∷ [])) (SourceSize 2)
unfolding copy_of looks looks_at is_free fits transfers writes_part writes writes_piece reads_piece reads_on unless_short Plays
cut = inl (Some 3, inl (None, inl (inl (inl (97 ∷ 98 ∷ [], inl ([], inl (refl, refl)))))))

-- a copy that is called off before its first piece
called_off : Plays (copy_of row) (told [] [])
    (told (Sized row.source (Some (Some 3)) ∷ Sized row.dest (Some None) ∷ Created (part_of row) (Some tt) ∷ []) (false ∷ [])) Stopped
unfolding copy_of looks looks_at is_free fits transfers writes_part writes writes_piece Plays
called_off = inl (Some 3, inl (None, inl (inr (refl, refl))))

-- a part of an empty file that has a byte
longer : Plays (copy_of row) (told [] [])
    (told (Sized row.source (Some (Some 0)) ∷ Sized row.dest (Some None) ∷ Created (part_of row) (Some tt) ∷ Read row.source 0 1 (Some []) ∷ Read (part_of row) 0 1 (Some (97 ∷ []))
    ∷ []) []) (ReadBackDiffers 0)
unfolding copy_of looks looks_at is_free fits transfers writes_part writes digests reads_back matches ends_there reads_behind reads_piece reads_on Plays
longer = inl (Some 0, inl (None, inl (inl ([], inl (97 ∷ [], (refl, refl))))))
