-- What the input of a run asks for. Its bytes, all of them, are a document; an empty one asks for nothing.
use Rattle.std.specs.Prelude.{◌≡◌, ◌≢◌, ◌⊎◌, ℕ, List, [], ◌∷◌, Option, Ok, Err}
use Rattle.fts_tables.specs.SettingsData.{SettingsData}
use Rattle.fts_tables.specs.declared.limits.TheConstants.{MAX_CONTENT_BYTES}
use Rattle.fts_tables.specs.declared.places.Place.{Place}
use Rattle.fts_disk.specs.Disk.{DiskState}
use Rattle.fts_wire.specs.ReadAll.{IsAll, IsRefused}
use Rattle.fts_wire.specs.declared.whole_input.ReadAllFault.{ReadAllFault}
use Rattle.fts_delete.specs.Asked.{Asked}
use Rattle.fts_delete.specs.Documents.{deletes_in, rule_of}
use Rattle.fts_delete.specs.Journals.{DeletesData, KeepsImages}
use Rattle.fts_delete.specs.declared.document.DeleteDocFault.{DeleteDocFault}
use Rattle.fts_delete.specs.declared.document.DeleteDocFault.TheVariants.{Memory as DocMemory}
use Rattle.fts_delete.specs.declared.events.Event.{Event}
use Rattle.fts_delete.specs.declared.events.Event.TheVariants.{Ask}
use Rattle.fts_delete.specs.declared.fault.DeleteFault.{DeleteFault}
use Rattle.fts_deleting.specs.Ends.{end_of, unread_end}
use Rattle.fts_deleting.specs.declared.ends.DeleteEnd.{DeleteEnd}
use Rattle.fts_deleting.specs.declared.ends.DeleteEnd.TheVariants.{Told, NoMemory, DiskFailed, InputFailed, OutputFailed, Damaged, JournalFull, DocumentRule, RowsFull}

-- the events that a document asks for: none where it is empty, else one asking for its places
abbrev pub AsksFor : SettingsData → List ℕ → List Event → Type 0
AsksFor settings [] asked = asked ≡ []
AsksFor settings (byte ∷ bytes) asked = (places : List Place) × (deletes_in (byte ∷ bytes) settings ≡ Ok places) × (asked ≡ Ask places ∷ [])

-- a document breaks the rule of this number
pub record BreaksRule (settings : SettingsData) (document : List ℕ) (rule : ℕ) : Type 0 where
  pub fault : DeleteDocFault
  pub real : fault ≢ DocMemory
  pub broken : deletes_in document settings ≡ Err fault
  pub number : rule ≡ rule_of fault

-- how a run may end whose document asks for nothing that can be asked
abbrev pub HasNoDocument : SettingsData → List ℕ → DeleteEnd → Type 0
HasNoDocument settings document NoMemory = Unit {0}
HasNoDocument settings document (DocumentRule rule) = BreaksRule settings document rule
HasNoDocument settings document InputFailed = ⊥
HasNoDocument settings document Told = ⊥
HasNoDocument settings document DiskFailed = ⊥
HasNoDocument settings document OutputFailed = ⊥
HasNoDocument settings document (Damaged offset) = ⊥
HasNoDocument settings document (JournalFull used) = ⊥
HasNoDocument settings document RowsFull = ⊥

module _ {D : Type 0} (state : D → DiskState) (faults : D → ℕ) (settings : SettingsData) where
  -- a document was asked for: nothing where it is empty, else its places, in one event
  abbrev pub AsksDocument : List ℕ → DeletesData D → DeletesData D → Type 0
  AsksDocument [] old new = new ≡ old
  AsksDocument (byte ∷ bytes) old new =
      (places : List Place) × (deletes_in (byte ∷ bytes) settings ≡ Ok places) × Asked state faults old new places (Ok tt) × KeepsImages state old new

  -- the asking for a document's places was refused
  pub record IsRefusedAsking (document : List ℕ) (old new : DeletesData D) (end : DeleteEnd) : Type 0 where
    pub places : List Place
    pub are : deletes_in document settings ≡ Ok places
    pub fault : DeleteFault
    pub asked : Asked state faults old new places (Err fault)
    pub images : KeepsImages state old new
    pub end_is : end ≡ end_of fault

  -- nothing was asked: a document that isn't empty has no places to ask for, or the asking was refused
  abbrev pub AsksNoDocument : List ℕ → DeletesData D → DeletesData D → DeleteEnd → Type 0
  AsksNoDocument [] old new end = ⊥
  AsksNoDocument (byte ∷ bytes) old new end = (HasNoDocument settings (byte ∷ bytes) end × (new ≡ old)) ⊎ IsRefusedAsking (byte ∷ bytes) old new end

  -- the input was read whole, and what it asks for was asked
  pub record Asks (before after : Option (List ℕ)) (old new : DeletesData D) : Type 0 where
    pub document : List ℕ
    pub all : IsAll MAX_CONTENT_BYTES before after document
    pub asks : AsksDocument document old new

  -- the input was not read whole: the list is as it was
  pub record IsUnread (before after : Option (List ℕ)) (old new : DeletesData D) (end : DeleteEnd) : Type 0 where
    pub fault : ReadAllFault
    pub refused : IsRefused MAX_CONTENT_BYTES before after fault
    pub end_is : end ≡ unread_end fault
    pub same : new ≡ old

  -- it was read whole, and nothing was asked
  pub record IsUnasked (before after : Option (List ℕ)) (old new : DeletesData D) (end : DeleteEnd) : Type 0 where
    pub document : List ℕ
    pub all : IsAll MAX_CONTENT_BYTES before after document
    pub unasked : AsksNoDocument document old new end

  abbrev pub AsksNot : Option (List ℕ) → Option (List ℕ) → DeletesData D → DeletesData D → DeleteEnd → Type 0
  AsksNot before after old new end = IsUnread before after old new end ⊎ IsUnasked before after old new end
