use borrow.Author.Rules.{rules}
use Rattle.driver.proofs.drive.drive.Goals as goal

pub drive_in-requires : goal.drive_in-requires
drive_in-requires c = record { c_value = c.requires.c_value; u_value = c.requires.u_value; in_bounds = search rules }
