-- What a beginning of a list makes.
use Rattle.std.proofs.Common.{◌≡◌, refl, sym, ◌∙◌, Option, Some, None, List, [], ◌∷◌, ◌++◌}
use Rattle.fts_delete.specs.declared.rows.DeleteRow.{DeleteRow}
use Rattle.fts_delete.specs.declared.events.Event.{Event}
use Rattle.fts_delete.specs.Rows.{rows_after, rows_from}
use Rattle.fts_delete.specs.Laws.{SplitsAt, BeginningIsLegal}

-- nothing is not something
pub none_some : {A : Type 0} (x : A) → None ≡ Some x → ⊥
none_some x e = cc

-- and something is but one
pub some_is : {A : Type 0} (x y : A) → Some x ≡ Some y → x ≡ y
some_is x y e = cc

-- where there are no rows, none come
pub none_stays : (events : List Event) → rows_from None events ≡ None
none_stays [] = refl
none_stays (event ∷ events) = refl

-- events behind others
pub from-append : (rows : Option (List DeleteRow)) (events more : List Event) → rows_from rows (events ++ more) ≡ rows_from (rows_from rows events) more
from-append rows [] more = refl
from-append None (event ∷ events) more = sym (none_stays more)
from-append (Some rows) (event ∷ events) more = from-append (rows_after rows event) events more

-- rows that come of some
came_of : (came : Option (List DeleteRow)) (events more : List Event) (rows : List DeleteRow) → rows_from (Some []) events ≡ came → rows_from came more ≡ Some rows → SplitsAt events more rows
came_of None events more rows is e = absurd (none_some rows (sym (none_stays more) ∙ e))
came_of (Some before) events more rows is e = record { before = before; first = is; goes_on = e }

pub beginning_is_legal : BeginningIsLegal
beginning_is_legal events more rows e = came_of (rows_from (Some []) events) events more rows refl (sym (from-append (Some []) events more) ∙ e)

-- what each event keeps, each list of events keeps
pub kept_from : (P : List DeleteRow → Type 0) → ((rows : List DeleteRow) (event : Event) (next : List DeleteRow) → P rows → rows_after rows event ≡ Some next → P next)
    → (came : Option (List DeleteRow)) (events : List Event) (new : List DeleteRow) → ((rows : List DeleteRow) → came ≡ Some rows → P rows) → rows_from came events ≡ Some new → P new
kept_from P keeps came [] new held e = held new e
kept_from P keeps None (event ∷ events) new held e = absurd (none_some new e)
kept_from P keeps (Some rows) (event ∷ events) new held e =
    kept_from P keeps (rows_after rows event) events new (λ next is. keeps rows event next (held rows refl) is) e
