-- What answering a request does to a shop within one turn.
use Rattle.std.specs.Prelude.{◌≡◌, ℕ, IsTrue}
use Rattle.fts_turnstile.specs.Passes.{Appends}
use Rattle.fts_wire.specs.RequestData.{RequestData}
use Rattle.fts_wire.specs.Response.{has_phrase, has_methods}
use Rattle.fts_wire.specs.declared.response.Reply.{Reply}
use Rattle.fts_keep.specs.Keeps.{IsKeep}
use Rattle.fts_routes.specs.Replies.{Answers}
use Rattle.fts_shop.specs.Shops.{ShopData, KeepsDisk, shop_entries, writer_of}
use Rattle.fts_disk.specs.declared.disk.Disk as disk

-- A request of a writer was answered: what a keep's type keeps, what is kept of the disk, that what is added is of the
-- writer, that the lanes left stay, and that a response can be written of the reply.
pub record AnswersIn {D : Type 0} (disks : disk.Ghosts D) (writer : ℕ) (request : RequestData) (now : ℕ)
    (old new : ShopData D) (reply : Reply) : Type 0 where
  pub kept : IsKeep disks.state old.keep
  pub disk : KeepsDisk disks writer old.keep new.keep
  pub answers : Answers disks.state disks.faults old.keep new.keep writer request now reply
  pub appends : Appends shop_entries writer_of writer old new
  pub stay : new.lanes ≡ old.lanes
  pub phrase : IsTrue (has_phrase reply.status)
  pub methods : IsTrue (has_methods reply.status reply.allow)
