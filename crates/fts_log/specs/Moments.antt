-- A moment as a date and a time of day in UTC, by the Gregorian calendar (RFC 3339).
use Rattle.std.specs.Prelude.{◌<◌, ◌≤◌, ℕ, zero, suc, ◌+◌, ◌-◌, ◌*◌, ◌/◌, ◌%◌, min, nat_lt, if◌then◌else◌, List, [], ◌∷◌, ◌++◌, slice_index, codes}

-- the leap days from year 1 to the one before this: each fourth year has one, of the hundredth years only each fourth
abbrev pub leap_days_before : ℕ → ℕ
leap_days_before year = (year - 1) / 4 - (year - 1) / 100 + (year - 1) / 400

-- the days from the first of 1970 to the first of a year; before 1970 there were 477 leap days
unfoldable pub days_before : ℕ → ℕ
days_before year = 365 * (year - 1970) + (leap_days_before year - 477)

-- the first year or month from this one on that ends behind a day, of which so many more may come; each begins so many days on
unfoldable pub first_from : (ℕ → ℕ) → ℕ → ℕ → ℕ → ℕ
first_from begins zero this day = this
first_from begins (suc more) this day = if nat_lt day (begins (this + 1)) then this else first_from begins more (this + 1) day

-- a day lies in a year or month: this one has begun by then, and the next one hasn't
abbrev pub LiesIn : (ℕ → ℕ) → ℕ → ℕ → Type 0
LiesIn begins this day = (begins this ≤ day) × (day < begins (this + 1))

-- the year of a day since 1970, and 9999 of one behind it
unfoldable pub year_of : ℕ → ℕ
year_of day = first_from days_before 8029 1970 day

-- the days of a year before a month, where it has so many leap days; month 13 is the end
unfoldable pub days_before_month : ℕ → ℕ → ℕ
days_before_month leap month =
    slice_index (0 ∷ 0 ∷ 31 ∷ 59 ∷ 90 ∷ 120 ∷ 151 ∷ 181 ∷ 212 ∷ 243 ∷ 273 ∷ 304 ∷ 334 ∷ 365 ∷ []) month
    + (if nat_lt 2 month then leap else 0)

-- the month of a day of the year, counted from 0
unfoldable pub month_of : ℕ → ℕ → ℕ
month_of leap day = first_from (days_before_month leap) 11 1 day

-- the last two digits of a number
abbrev pub two_digits : ℕ → List ℕ
two_digits number = (48 + number / 10 % 10) ∷ (48 + number % 10) ∷ []

-- a date by its year, month and day
abbrev pub date_text : ℕ → ℕ → ℕ → List ℕ
date_text year month day = two_digits (year / 100) ++ two_digits year ++ codes "-" ++ two_digits month ++ codes "-" ++ two_digits day

-- a time of day by its seconds
abbrev pub time_text : ℕ → List ℕ
time_text second = two_digits (second / 3600) ++ codes ":" ++ two_digits (second / 60 % 60) ++ codes ":" ++ two_digits (second % 60)

-- the date of a day of a year, counted from 0, of which so many days are leap days
unfoldable pub day_text : ℕ → ℕ → ℕ → List ℕ
day_text year leap day = date_text year (month_of leap day) (day - days_before_month leap (month_of leap day) + 1)

-- the date of a day since 1970
unfoldable pub since_1970 : ℕ → List ℕ
since_1970 day =
    day_text (year_of day) (days_before (year_of day + 1) - days_before (year_of day) - 365) (day - days_before (year_of day))

-- a moment in seconds since 1970; the last second of 9999 stands for later ones
unfoldable pub moment_text : ℕ → List ℕ
moment_text moment =
    since_1970 (min moment 253402300799 / 86400) ++ codes "T" ++ time_text (min moment 253402300799 % 86400) ++ codes "Z"
