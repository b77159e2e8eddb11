use Rattle.dev_io.specs.declared.files.Opened.TheVariants.{Found, Absent, Failed}
use Rattle.source_files.proofs.FollowingLemmas.{follows_open}
use Rattle.source_files.proofs.HandedLemmas.{is_gone, is_in_hand, is_shut}
use Rattle.source_files.proofs.read_files.find_file.Goals as goal

pub returns-in-Absent-clause-given : goal.returns-in-Absent-clause-given
returns-in-Absent-clause-given g c = is_gone c.args.name.now _ _ c.in-Absent.ensures.handed

pub returns-in-Failed-clause-given : goal.returns-in-Failed-clause-given
returns-in-Failed-clause-given g c = is_shut c.args.name.now _ _ c.in-Failed.ensures.handed

pub returns-in-Found-clause-given : goal.returns-in-Found-clause-given
returns-in-Found-clause-given g c = is_in_hand c.args.name.now _ _ c.in-Found.ensures.handed

pub returns-in-Absent-clause-followed : goal.returns-in-Absent-clause-followed
returns-in-Absent-clause-followed g c =
    follows_open c.args.name.now Absent _ _ _ _ c.in-Absent.ensures.told c.in-Absent.ensures.handed

pub returns-in-Failed-clause-followed : goal.returns-in-Failed-clause-followed
returns-in-Failed-clause-followed g c =
    follows_open c.args.name.now Failed _ _ _ _ c.in-Failed.ensures.told c.in-Failed.ensures.handed

pub returns-in-Found-clause-followed : goal.returns-in-Found-clause-followed
returns-in-Found-clause-followed g c =
    follows_open c.args.name.now Found _ _ _ _ c.in-Found.ensures.told c.in-Found.ensures.handed
