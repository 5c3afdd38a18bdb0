use Rattle.std.proofs.Common.{◌≡◌, Some, not, map, string_bytes, sym, ◌∙◌, ap}
use Rattle.fts_files.specs.Calls.{Done}
use Rattle.fts_files.specs.Script.{Ends}
use Rattle.fts_store.specs.Store.{place_at}
use Rattle.fts_store.specs.Paths.{path_in, folders_of}
use Rattle.fts_store.specs.Folders.{still_stable, to_sync}
use Rattle.fts_store.specs.Opened.{is_free}
use Rattle.fts_store.specs.FolderCalls.{OpenMoved}
use Rattle.fts_store.proofs.Moved.{moved_as, ends_moved, of_open}
use Rattle.fts_store.proofs.folder.FolderStore.shift.Goals as goal

pub returns-clause-moved : goal.returns-clause-moved
returns-clause-moved g c =
    let root = string_bytes c.args.self.now.root in
    let missing = c.in_ok-missing.missing in
    let at = path_in root (place_at c.args.to) in
    let there : string_bytes c.in_ok-new.new ≡ at = rw c.as_str-2.ensures.value at c.in_ok-new.ensures.path in
    let chain : map string_bytes c.in_ok-folders.folders.items ≡ folders_of at = c.in_ok-folders.ensures ∙ ap folders_of (c.as_str-3.ensures.value ∙ there) in
    let known : c.forget.new.stable.items ≡ still_stable missing (folders_of at) c.args.self.now.stable.items =
    c.forget.ensures ∙ ap (λ l. still_stable missing l c.args.self.now.stable.items) (ap (map string_bytes) c.deref-2.ensures.value ∙ chain) in
    of_open (λ part. OpenMoved (g.F.FileSystem.number part.file.file) root c.args.self.now.stable.items c.args.self.now.free (place_at c.args.from) (place_at c.args.to) _)
    c.args.self.now.writing c.in-Some.part (sym c.take.ensures.value ∙ c.in-Some.is) (
      missing,
      moved_as _ _ _ _ _ _ _ _ _ _
          (c.as_str-7.ensures.value ∙ (rw c.as_str.ensures.value at c.in_ok-old.ensures.path))
          (c.as_str-8.ensures.value ∙ there)
          (c.to_sync-synced.ensures
          ∙ ap (λ r. to_sync r c.deref-3.result.now (map string_bytes c.deref-4.result.now)) c.as_str-6.ensures.value
          ∙ ap (λ s. to_sync root s (map string_bytes c.deref-4.result.now)) (c.deref-3.ensures.value ∙ known)
          ∙ ap (λ l. to_sync root (still_stable missing (folders_of at) c.args.self.now.stable.items) l) (ap (map string_bytes) c.deref-4.ensures.value ∙ chain))
          (ap not (c.is_free-overwrite.ensures ∙ ap (is_free c.args.self.now.free) (c.as_str-5.ensures.value ∙ there)))
          (ends_moved _ _ _ _ _ _ _ (c.in_ok-put_in_place.ensures.script (Ends (Some Done))) c.in_ok-put_in_place.ensures.moved),
    )
