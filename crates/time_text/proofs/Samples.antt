-- Worked examples: the seconds that texts say, and a delay.
use Rattle.std.specs.Prelude.{◌≡◌, codes, Ok, Err, refl}
use Rattle.time_text.specs.Durations.{duration_of, delay}
use Rattle.time_text.specs.declared.duration.DurationRefused.TheVariants.{BadForm, TooLong}

all : duration_of (codes "1h2m3s") ≡ Ok 3723
all = refl

bare : duration_of (codes "90") ≡ Ok 90
bare = refl

bad : duration_of (codes "5x") ≡ Err BadForm
bad = refl

nine : duration_of (codes "123456789") ≡ Err BadForm
nine = refl

order : duration_of (codes "1m1h") ≡ Err BadForm
order = refl

long : duration_of (codes "8761h") ≡ Err TooLong
long = refl

year : duration_of (codes "8760h") ≡ Ok 31536000
year = refl

three : delay 5 2 3 ≡ 20
three = refl
