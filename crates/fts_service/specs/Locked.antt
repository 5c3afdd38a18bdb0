-- A shop behind its lock, with the passes of lanes and workers, before any of them took a turn.
use Rattle.std.specs.Prelude.{◌≡◌, ℕ, List}
use Rattle.fts_tables.specs.declared.commands.Entry.{Entry}
use Rattle.fts_turnstile.specs.Passes.{TurnstileView, PassView, first_pass}
use Rattle.fts_passes.specs.Crews.{passes_given}
use Rattle.fts_shop.specs.Shops.{ShopData, shop_entries, shop_shows}
use Rattle.fts_disk.specs.declared.disk.Disk as disk

-- pass 0 of a lock, which gave so many passes
abbrev pub giver_of : TurnstileView Entry → ℕ → PassView Entry
giver_of lock count = record (first_pass lock) { given = count }

-- a lock was made over a shop, and its pass 0 gave so many passes
pub record IsLocked {D : Type 0} (disks : disk.Ghosts D) (shop : ShopData D) (count : ℕ) (lock : TurnstileView Entry) (first : PassView Entry) (passes : List (PassView Entry))
    : Type 0 where
  pub opening : lock.opening ≡ shop_entries shop
  pub shows : lock.opening_shows ≡ shop_shows disks shop
  pub first_is : first ≡ giver_of lock count
  pub passes_are : passes ≡ passes_given (first_pass lock) count

-- a shop that nobody took a turn of: it holds the list that it held, and shows the same
pub record IsUntouched {D : Type 0} (disks : disk.Ghosts D) (shop left : ShopData D) : Type 0 where
  pub listed : shop_entries left ≡ shop_entries shop
  pub showed : shop_shows disks left ≡ shop_shows disks shop
