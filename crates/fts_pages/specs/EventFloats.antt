-- No event has a float: what is shown of one can be written exactly.
use Rattle.std.specs.Prelude.{◌≡◌, ℕ, false, Option, Some, None, refl}
use Rattle.serde_json.specs.Written.{has_float}
use Rattle.fts_pages.specs.Events.{bytes_data}
use Rattle.fts_pages.specs.Pages.{event_object}
use Rattle.fts_pages.specs.declared.events.EventShown.{EventShown}

-- a number of bytes has none
bytes_no_float : (bytes : Option ℕ) → has_float (bytes_data bytes) ≡ false
bytes_no_float None = refl
bytes_no_float (Some bytes) = refl

-- nor has an event
pub event_no_float : (shown : EventShown) → has_float (event_object shown) ≡ false
event_no_float shown = rw (bytes_no_float shown.bytes) refl
