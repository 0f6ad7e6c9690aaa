mod ParsesDigits
mod Soundness
mod Worked
