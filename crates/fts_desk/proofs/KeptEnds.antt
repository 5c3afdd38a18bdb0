-- The ends of the row at a place, which are those of a link, where that row changes and keeps its file.
use Rattle.std.proofs.Common.{◌≡◌, ℕ, ◌<◌, List, length, get_or, Option, Some, None, refl, ap, sym, ◌∙◌, subst}
use Rattle.std.specs.Prelude.{slice_get, IfSome}
use Rattle.std.proofs.lemmas.Option.{slice_get-get_or}
use Rattle.fts_tables.specs.Laws.{FileOfRow, file_of}
use Rattle.fts_tables.specs.SettingsData.{SettingsData}
use Rattle.fts_tables.specs.declared.rows.FileRow.{FileRow}
use Rattle.fts_tables.specs.declared.settings.LinkAt.{LinkAt}
use Rattle.fts_desk.specs.Parts.{IsBetweenIn}
use Rattle.fts_desk.specs.Places.{change_at}
use Rattle.fts_desk.proofs.CancelledParts.{read_set}
use Rattle.fts_desk.proofs.ChangedRows.{change_at-set}

-- the row at a place has the ends of a link
abbrev pub HasEndsAt : List FileRow → ℕ → Option SettingsData → LinkAt → Type 0
HasEndsAt rows place settings link = (row : FileRow) → slice_get rows place ≡ Some row → IsBetweenIn settings link row

-- a row of the same file has the same ends
same_ends : (settings : Option SettingsData) (link : LinkAt) (before after : FileRow) → file_of after ≡ file_of before → IsBetweenIn settings link before
    → IsBetweenIn settings link after
same_ends None link before after same ends = tt
same_ends (Some settings) link before after same ends = record {
  source = ends.source ∙ sym (ap (λ (file : FileOfRow). file.source.endpoint) same);
  dest = ends.dest ∙ sym (ap (λ (file : FileOfRow). file.dest.endpoint) same);
}

module _ (rows after : List FileRow) (place : ℕ) (change : FileRow → FileRow) (keeps : (row : FileRow) → file_of (change row) ≡ file_of row)
    (inside : place < length rows) (changed : after ≡ change_at place change rows) where
  -- what stands there now is the change of what stood there
  keeps_ends : (settings : Option SettingsData) (link : LinkAt) → HasEndsAt rows place settings link → HasEndsAt after place settings link
  keeps_ends settings link ends row at =
      let before = get_or rows place row in
      let written = change_at-set rows place change row (change before) inside refl in
      let is : row ≡ change before = read_set rows place (change before) row inside
      (ap (λ (items : List FileRow). slice_get items place) (written ∙ sym changed) ∙ at) in
      same_ends settings link before row (ap file_of is ∙ keeps before) (ends before (slice_get-get_or rows place row inside))

  -- and so it is where a link was found, under the same settings
  pub ends_placed : (old new : Option SettingsData) (link : Option LinkAt) → new ≡ old → IfSome link (HasEndsAt rows place old)
      → IfSome link (HasEndsAt after place new)
  ends_placed old new None same ends = tt
  ends_placed old new (Some link) same ends =
      subst (λ (settings : Option SettingsData). HasEndsAt after place settings link) (sym same) (keeps_ends old link ends)
