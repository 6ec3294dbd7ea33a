-- What is known of the steps of a reading that found something.
use Rattle.std.proofs.Common.{◌≡◌, Bool, true, false, cond, Option, Some, None, option_map, refl}
use Rattle.std.specs.Option.{option_map_or}
use Rattle.std.proofs.lemmas.Option.{none-some, same_Some}

pub found-if : {A P : Type 0} (b : Bool) (o p : Option A) (i : A) → (b ≡ true → o ≡ Some i → P) → (b ≡ false → p ≡ Some i → P) → cond b o p ≡ Some i → P
found-if true o p i first second h = first refl h
found-if false o p i first second h = second refl h

pub found-map : {A B P : Type 0} (f : A → B) (o : Option A) (i : B) → ((x : A) → o ≡ Some x → f x ≡ i → P) → option_map f o ≡ Some i → P
found-map f None i k h = absurd (none-some i h)
found-map f (Some x) i k h = k x refl (same_Some _ _ h)

pub found-map_or : {A B P : Type 0} (f : A → Option B) (o : Option A) (d : Option B) (i : B) → ((x : A) → o ≡ Some x → f x ≡ Some i → P) → (d ≡ Some i → P) → option_map_or f o d ≡ Some i → P
found-map_or f None d i here else h = else h
found-map_or f (Some x) d i here else h = here x refl h
