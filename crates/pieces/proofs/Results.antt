-- What a result is handed on with.
use Rattle.std.specs.Prelude.{IfOk, IfErr}
use Rattle.std.specs.declared.result.Result.{Result}
use Rattle.std.specs.declared.result.Result.TheVariants.{Ok, Err}

pub ok_then : {A E : Type 0} {P Q : A → Type 0} (r : Result A E) → IfOk r P
    → ((x : A) → P x → Q x) → IfOk r Q
ok_then (Ok x) h k = k x h
ok_then (Err e) h k = tt

pub err_then : {A E : Type 0} {P Q : E → Type 0} (r : Result A E) → IfErr r P
    → ((e : E) → P e → Q e) → IfErr r Q
err_then (Ok x) h k = tt
err_then (Err e) h k = k e h
