use Rattle.std.proofs.Common.{◌≡◌, ◌∙◌, inr, map, string_bytes, sym, ap, rules}
use Rattle.fts_files.specs.Script.{fails}
use Rattle.fts_files.proofs.Playing.{then_leads, failed}
use Rattle.fts_store.specs.Store.{place_at}
use Rattle.fts_store.specs.Folder.{is_among_parts}
use Rattle.fts_store.specs.Folders.{below}
use Rattle.fts_store.specs.FolderCalls.{inner_folders}
use Rattle.fts_store.specs.Paths.{endpoint_in, path_in, folders_of}
use Rattle.fts_store.specs.Removing.{removes_for_good}
use Rattle.fts_store.proofs.Removings.{apart_leads, same_file}
use Rattle.fts_store.proofs.folder.FolderStore.erase_file.Goals as goal

pub returns-in_err-_was_there-clause-script : goal.returns-in_err-_was_there-clause-script
returns-in_err-_was_there-clause-script g c =
    let root = string_bytes c.args.self.now.root in
    inr (λ next. failed (λ done. next) fails c.from_residual-in_err-_was_there.result
    (apart_leads root c.args.self.now.met.items (place_at c.args.at) _ _ _ _ _
    (sym (ap is_among_parts c.as_bytes.ensures.value) ∙ sym c.is_among_parts.ensures ∙ c.if-is_among_parts.false)
    c.in_ok-path.ensures.outside
    (rw c.as_str-4.ensures.value at c.in_ok-met.ensures.folder)
    ((rw c.in_ok-met.ensures.met at c.in_err-_was_there.ensures) _)) (search rules))

pub returns-in_err-remove_for_good-clause-script : goal.returns-in_err-remove_for_good-clause-script
returns-in_err-remove_for_good-clause-script g c =
    let root = string_bytes c.args.self.now.root in
    let at = path_in root (place_at c.args.at) in
    let there : string_bytes c.in_ok-path.path ≡ at = rw c.as_str.ensures.value at c.in_ok-path.ensures.path in
    let own : string_bytes c.in_ok-own.own ≡ endpoint_in root (place_at c.args.at).endpoint = rw c.as_str-3.ensures.value at c.in_ok-own.ensures in
    let chain : map string_bytes c.deref.result.now ≡ folders_of at = ap (map string_bytes) c.deref.ensures.value ∙ c.in_ok-folders.ensures ∙ ap folders_of (c.as_str-2.ensures.value ∙ there) in
    let inner : map string_bytes c.below-inner.result.now ≡ inner_folders root (place_at c.args.at) =
    c.below-inner.ensures ∙ ap (λ l. below l c.as_str-5.result.now) chain ∙ ap (below (folders_of at)) (c.as_str-5.ensures.value ∙ own) in
    inr (λ next. failed (λ done. next) fails c.from_residual-in_err-remove_for_good.result
    (apart_leads root c.args.self.now.met.items (place_at c.args.at) _ _ _ _ _
    (sym (ap is_among_parts c.as_bytes.ensures.value) ∙ sym c.is_among_parts.ensures ∙ c.if-is_among_parts.false)
    c.in_ok-path.ensures.outside
    (rw c.as_str-4.ensures.value at c.in_ok-met.ensures.folder)
    (then_leads ((rw c.in_ok-met.ensures.met at c.in_ok-_was_there.ensures) _)
    (then_leads (same_file (λ top folders path. removes_for_good top folders path next) _ _ _ _ _ _ _ (c.as_str-6.ensures.value ∙ own) inner (c.as_str-7.ensures.value ∙ there))
    (c.in_err-remove_for_good.ensures next)))) (search rules))

pub returns-clause-script : goal.returns-clause-script
returns-clause-script g c =
    let root = string_bytes c.args.self.now.root in
    let at = path_in root (place_at c.args.at) in
    let there : string_bytes c.in_ok-path.path ≡ at = rw c.as_str.ensures.value at c.in_ok-path.ensures.path in
    let own : string_bytes c.in_ok-own.own ≡ endpoint_in root (place_at c.args.at).endpoint = rw c.as_str-3.ensures.value at c.in_ok-own.ensures in
    let chain : map string_bytes c.deref.result.now ≡ folders_of at = ap (map string_bytes) c.deref.ensures.value ∙ c.in_ok-folders.ensures ∙ ap folders_of (c.as_str-2.ensures.value ∙ there) in
    let inner : map string_bytes c.below-inner.result.now ≡ inner_folders root (place_at c.args.at) =
    c.below-inner.ensures ∙ ap (λ l. below l c.as_str-5.result.now) chain ∙ ap (below (folders_of at)) (c.as_str-5.ensures.value ∙ own) in
    inr (λ next.
    (apart_leads root c.args.self.now.met.items (place_at c.args.at) _ _ _ _ _
    (sym (ap is_among_parts c.as_bytes.ensures.value) ∙ sym c.is_among_parts.ensures ∙ c.if-is_among_parts.false)
    c.in_ok-path.ensures.outside
    (rw c.as_str-4.ensures.value at c.in_ok-met.ensures.folder)
    (then_leads ((rw c.in_ok-met.ensures.met at c.in_ok-_was_there.ensures) _)
    (then_leads (same_file (λ top folders path. removes_for_good top folders path next) _ _ _ _ _ _ _ (c.as_str-6.ensures.value ∙ own) inner (c.as_str-7.ensures.value ∙ there))
    (c.in_ok-remove_for_good.ensures next)))))
